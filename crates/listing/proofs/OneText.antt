-- The bytes of a description determine what is printed, want of memory aside.
use Rattle.std.proofs.Common.{◌≡◌, ℕ, ◌⊎◌, List, [], ◌++◌, length, codes, Ok, Err, sym, refl, ap, ◌∙◌, subst, inl, inr, arith}
use Rattle.scheme.specs.Scheme.{Model}
use Rattle.tiling.specs.declared.leaf.Leaf.{Leaf}
use Rattle.tiling.specs.Positions.{evenly}
use Rattle.description.specs.declared.shape.Shape.{Shape}
use Rattle.description.specs.declared.shape.Shape.TheVariants.{Line, Square, Triangle, Prism, Hexahedron}
use Rattle.description.specs.Words.{shape_word}
use Rattle.description.specs.Format.{Contents, scheme_of}
use Rattle.description.specs.Reading.{Reads, granted, refused}
use Rattle.description.specs.Told as reader
use Rattle.description.proofs.Unique.{one_reading}
use Rattle.forest.specs.declared.fault.PlantFault.{PlantFault}
use Rattle.forest.specs.Planting.{leaves, Stopped}
use Rattle.forest.proofs.OnePlanting.{not_both, one_stop}
use Rattle.listing.specs.declared.fault.Fault.TheVariants.{Reader, Planting, NoMemory}
use Rattle.listing.specs.declared.listing.Listing.{Listing}
use Rattle.listing.specs.declared.unlisted.NotYet.TheVariants.{Shaped, Stepped}
use Rattle.listing.specs.declared.unlisted.Unlisted.TheVariants.{Refused, Wanting}
use Rattle.listing.specs.Text.{spaced, line_feed, forest_line, leaf_lines, listing_text, fault_line}
use Rattle.listing.specs.Answering.{Lists, StepsWanting, Planned, line_model, OfLines, OfAnother, Answer, Answers, printed, Certain, OneText}

-- the word of the shape with scheme number 1
line_word : (s : Shape) → scheme_of s ≡ 1 → shape_word s ≡ codes "line"
line_word Line e = refl
line_word Square e = absurd (omega arith)
line_word Triangle e = absurd (omega arith)
line_word Prism e = absurd (omega arith)
line_word Hexahedron e = absurd (omega arith)

-- a listing's text, told by the contents of its description
text_of : Model → Contents → List ℕ
text_of m c = forest_line (codes "line") c.roots (length (evenly c.roots m.w c.level)) 0 0 ++ leaf_lines 0 (evenly c.roots m.w c.level)

text_by : (word : List ℕ) (roots splits merges : ℕ) (ls : List Leaf) → List ℕ
text_by word roots splits merges ls = forest_line word roots (length ls) splits merges ++ leaf_lines 0 ls

listed_text : (m : Model) (c : Contents) (x : Listing) → c.scheme ≡ 1 → Lists m c x → listing_text x ≡ text_of m c
unfolding text_of text_by
listed_text m c x one l =
    let ls = evenly c.roots m.w c.level in
    ap (λ w. text_by w x.forest.mesh.roots x.splits x.merges (leaves x.forest)) (line_word x.shape (l.shape ∙ one)) ∙
    ap (λ r. text_by (codes "line") r x.splits x.merges (leaves x.forest)) l.roots ∙
    ap (λ n. text_by (codes "line") c.roots n x.merges (leaves x.forest)) l.splits ∙
    ap (λ n. text_by (codes "line") c.roots 0 n (leaves x.forest)) l.merges ∙
    ap (λ xs. text_by (codes "line") c.roots 0 0 xs) l.grown.1.even

-- one planting is not both granted and refused
module _ (m : Model) (c : Contents) where
  listed_not : (x : Listing) (e : PlantFault) → Lists m c x → Stopped m c.roots c.joints c.level 1024 e → ⊥
  listed_not x e l s =
      let g = l.grown.1 in
      not_both m c.roots c.joints c.level 1024 e s g.sound g.shallow (omega (arith, g.count, g.room))

  stepped_not : (e : PlantFault) → StepsWanting m c → Stopped m c.roots c.joints c.level 1024 e → ⊥
  stepped_not e w s = not_both m c.roots c.joints c.level 1024 e s w.sound w.shallow w.room

  one_planned : (r r' : Answer) → c.scheme ≡ 1 → Planned m c r → Planned m c r' → Certain r → Certain r' → printed r ≡ printed r'
  one_planned (Ok x) (Ok x') one p p' s s' = listed_text m c x one p ∙ sym (listed_text m c x' one p')
  one_planned (Ok x) (Err (Refused (Reader e))) one p p' s s' = absurd p'
  one_planned (Ok x) (Err (Refused (Planting e))) one p p' s s' = absurd (listed_not x e p p')
  one_planned (Ok x) (Err (Refused NoMemory)) one p p' s s' = absurd (s' refl)
  one_planned (Ok x) (Err (Wanting (Shaped a))) one p p' s s' = absurd p'
  one_planned (Ok x) (Err (Wanting Stepped)) one p p' s s' = absurd (p'.steps p.no_steps)
  one_planned (Err (Refused (Reader e))) r' one p p' s s' = absurd p
  one_planned (Err (Refused (Planting e))) (Ok x) one p p' s s' = absurd (listed_not x e p' p)
  one_planned (Err (Refused (Planting e))) (Err (Refused (Reader e'))) one p p' s s' = absurd p'
  one_planned (Err (Refused (Planting e))) (Err (Refused (Planting e'))) one p p' s s' =
      ap (λ f. fault_line (Planting f)) (one_stop m c.roots c.joints c.level 1024 e e' p p')
  one_planned (Err (Refused (Planting e))) (Err (Refused NoMemory)) one p p' s s' = absurd (s' refl)
  one_planned (Err (Refused (Planting e))) (Err (Wanting (Shaped a))) one p p' s s' = absurd p'
  one_planned (Err (Refused (Planting e))) (Err (Wanting Stepped)) one p p' s s' = absurd (stepped_not e p' p)
  one_planned (Err (Refused NoMemory)) r' one p p' s s' = absurd (s refl)
  one_planned (Err (Wanting (Shaped a))) r' one p p' s s' = absurd p
  one_planned (Err (Wanting Stepped)) (Ok x) one p p' s s' = absurd (p.steps p'.no_steps)
  one_planned (Err (Wanting Stepped)) (Err (Refused (Reader e))) one p p' s s' = absurd p'
  one_planned (Err (Wanting Stepped)) (Err (Refused (Planting e))) one p p' s s' = absurd (stepped_not e p p')
  one_planned (Err (Wanting Stepped)) (Err (Refused NoMemory)) one p p' s s' = absurd (s' refl)
  one_planned (Err (Wanting Stepped)) (Err (Wanting (Shaped a))) one p p' s s' = refl
  one_planned (Err (Wanting Stepped)) (Err (Wanting Stepped)) one p p' s s' = refl

-- the line of a refusal of the reader
reader_line : ℕ → ℕ → List ℕ
reader_line number place = (codes "E " ++ (codes "reader" ++ (spaced number ++ spaced place))) ++ line_feed

module _ (bytes : List ℕ) where
  -- the bytes are those of a description of another shape, and nothing is printed
  record Elsewhere (r : Answer) : Type 0 where
    pub number : ℕ
    pub other : OfAnother bytes number
    pub prints : printed r ≡ []

  -- the bytes are those of no description, and what is printed tells why
  record Damaged (r : Answer) : Type 0 where
    pub number : ℕ
    pub place : ℕ
    pub reads : Reads bytes (refused number place)
    pub prints : printed r ≡ reader_line number place

  Kinds : Answer → Type 0
  Kinds r = OfLines bytes r ⊎ (Elsewhere r ⊎ Damaged r)

  -- an answer that tells no want of memory is to a description of lines, of another shape, or to bytes that are none
  certain : (r : Answer) → Answers bytes r → Certain r → Kinds r
  unfolding Kinds reader_line
  certain (Ok x) a y = inl a
  certain (Err (Refused (Reader e))) (inl none) y = absurd (y (ap (λ (t : ℕ × ℕ). t.0) none))
  certain (Err (Refused (Reader e))) (inr reads) y =
      inr (inr (record { number = (reader.told e).0; place = (reader.told e).1; reads = reads; prints = refl }))
  certain (Err (Refused (Planting e))) a y = inl a
  certain (Err (Refused NoMemory)) a y = absurd (y refl)
  certain (Err (Wanting (Shaped s))) a y = inr (inl (record { number = scheme_of s; other = a; prints = refl }))
  certain (Err (Wanting Stepped)) a y = inl a

  granted_not : (c : Contents) (number place : ℕ) → Reads bytes (granted c) → Reads bytes (refused number place) → ⊥
  granted_not c number place x y =
      let e : granted c ≡ refused number place = one_reading bytes (granted c) (refused number place) x y in
      let z : ◌≡◌ {A = ℕ} 0 1 = cc e in omega arith

  one_contents : (c c' : Contents) → Reads bytes (granted c) → Reads bytes (granted c') → c ≡ c'
  one_contents c c' x y = let e : granted c ≡ granted c' = one_reading bytes (granted c) (granted c') x y in cc e

  one_damaged : (r r' : Answer) → Damaged r → Damaged r' → printed r ≡ printed r'
  one_damaged r r' a a' =
      let same : refused a.number a.place ≡ refused a'.number a'.place = one_reading bytes _ _ a.reads a'.reads in
      let number : a.number ≡ a'.number = cc same in
      let place : a.place ≡ a'.place = cc same in
      a.prints ∙ ap (λ n. reader_line n a.place) number ∙ ap (reader_line a'.number) place ∙ sym a'.prints

  one_of_lines : (r r' : Answer) → OfLines bytes r → OfLines bytes r' → Certain r → Certain r' → printed r ≡ printed r'
  one_of_lines r r' a a' y y' =
      let same = one_contents a.what a'.what a.reads a'.reads in
      let p' : Planned (line_model a.what) a.what r' = subst (λ c. Planned (line_model c) c r') (sym same) a'.planned in
      one_planned (line_model a.what) a.what r r' a.scheme a.planned p' y y'

  -- lines are of no other shape
  lines_not : (r : Answer) (number : ℕ) → OfLines bytes r → OfAnother bytes number → ⊥
  lines_not r number a o =
      let same = one_contents a.what o.what a.reads o.reads in
      o.other (sym o.scheme ∙ ap (λ c. c.scheme) (sym same) ∙ a.scheme)

  one_certain : (r r' : Answer) → Kinds r → Kinds r' → Certain r → Certain r' → printed r ≡ printed r'
  unfolding Kinds
  one_certain r r' (inl a) (inl a') y y' = one_of_lines r r' a a' y y'
  one_certain r r' (inl a) (inr (inl o)) y y' = absurd (lines_not r o.number a o.other)
  one_certain r r' (inl a) (inr (inr d)) y y' = absurd (granted_not a.what d.number d.place a.reads d.reads)
  one_certain r r' (inr (inl o)) (inl a) y y' = absurd (lines_not r' o.number a o.other)
  one_certain r r' (inr (inl o)) (inr (inl o')) y y' = o.prints ∙ sym o'.prints
  one_certain r r' (inr (inl o)) (inr (inr d)) y y' = absurd (granted_not o.other.what d.number d.place o.other.reads d.reads)
  one_certain r r' (inr (inr d)) (inl a) y y' = absurd (granted_not a.what d.number d.place a.reads d.reads)
  one_certain r r' (inr (inr d)) (inr (inl o)) y y' = absurd (granted_not o.other.what d.number d.place o.other.reads d.reads)
  one_certain r r' (inr (inr d)) (inr (inr d')) y y' = one_damaged r r' d d'

pub one_text : OneText
one_text bytes r r' a a' y y' = one_certain bytes r r' (certain bytes r a y) (certain bytes r' a' y') y y'
