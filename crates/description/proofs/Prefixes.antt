-- No part's bytes begin another's: the part at the front of a list is told by its bytes.
use Rattle.std.proofs.Common.{◌≡◌, ℕ, ◌⊎◌, List, [], ◌∷◌, ◌++◌, length, sym, refl, ap, ◌∙◌, inl, inr, append_assoc, arith, length-append}
use Rattle.mesh.specs.declared.joint.Joint.{Joint}
use Rattle.description.specs.declared.step.WindowStep.{WindowStep}
use Rattle.description.specs.declared.step.RangeStep.{RangeStep}
use Rattle.description.specs.declared.step.Step.{Step}
use Rattle.description.specs.declared.step.Step.TheVariants.{Window, Range, Balance}
use Rattle.description.specs.Format.{Head, be, head_bytes, row_bytes, window_bytes, range_bytes, step_bytes}
use Rattle.description.specs.Bounds.{HeadFits, RowFits, WindowFits, RangeFits, StepFits}
use Rattle.description.specs.Faults.{Cut, Unknown, CutStep, TagFault}
use Rattle.description.proofs.Bytes.{field}

pub head_one : (h k : Head) (r s : List ℕ) → HeadFits h → HeadFits k → head_bytes h ++ r ≡ head_bytes k ++ s → (h ≡ k) × (r ≡ s)
unfolding head_bytes
head_one h k r s fh fk e =
    let a = field 1 h.scheme k.scheme fh.scheme_fits fk.scheme_fits (simp append_assoc at e) in
    let b = field 2 h.roots k.roots fh.roots_fit fk.roots_fit a.1 in
    let c = field 1 h.level k.level fh.level_fits fk.level_fits b.1 in
    let d = field 1 h.limit k.limit fh.limit_fits fk.limit_fits c.1 in
    let f = field 2 h.rows k.rows fh.rows_fit fk.rows_fit d.1 in
    (λ i. record { scheme = a.0 i; roots = b.0 i; level = c.0 i; limit = d.0 i; rows = f.0 i }, f.1)

pub row_one : (h k : Joint) (r s : List ℕ) → RowFits h → RowFits k → row_bytes h ++ r ≡ row_bytes k ++ s → (h ≡ k) × (r ≡ s)
unfolding row_bytes
row_one h k r s fh fk e =
    let a = field 2 h.root k.root fh.root_fits fk.root_fits (simp append_assoc at e) in
    let b = field 1 h.face k.face fh.face_fits fk.face_fits a.1 in
    let c = field 2 h.other_root k.other_root fh.other_root_fits fk.other_root_fits b.1 in
    let d = field 1 h.other_face k.other_face fh.other_face_fits fk.other_face_fits c.1 in
    let f = field 1 h.turn k.turn fh.turn_fits fk.turn_fits d.1 in
    (λ i. record { root = a.0 i; face = b.0 i; other_root = c.0 i; other_face = d.0 i; turn = f.0 i }, f.1)

pub window_one : (h k : WindowStep) (r s : List ℕ) → WindowFits h → WindowFits k → window_bytes h ++ r ≡ window_bytes k ++ s → (h ≡ k) × (r ≡ s)
unfolding window_bytes
window_one h k r s fh fk e =
    let a = field 2 h.root k.root fh.root_fits fk.root_fits (simp append_assoc at e) in
    let b = field 1 h.target k.target fh.target_fits fk.target_fits a.1 in
    let c = field 4 h.x0 k.x0 fh.x0_fits fk.x0_fits b.1 in
    let d = field 4 h.y0 k.y0 fh.y0_fits fk.y0_fits c.1 in
    let f = field 4 h.x1 k.x1 fh.x1_fits fk.x1_fits d.1 in
    let g = field 4 h.y1 k.y1 fh.y1_fits fk.y1_fits f.1 in
    (λ i. record { root = a.0 i; target = b.0 i; x0 = c.0 i; y0 = d.0 i; x1 = f.0 i; y1 = g.0 i }, g.1)

pub range_one : (h k : RangeStep) (r s : List ℕ) → RangeFits h → RangeFits k → range_bytes h ++ r ≡ range_bytes k ++ s → (h ≡ k) × (r ≡ s)
unfolding range_bytes
range_one h k r s fh fk e =
    let a = field 2 h.root k.root fh.root_fits fk.root_fits (simp append_assoc at e) in
    let b = field 1 h.target k.target fh.target_fits fk.target_fits a.1 in
    let c = field 8 h.first k.first fh.first_fits fk.first_fits b.1 in
    let d = field 8 h.last k.last fh.last_fits fk.last_fits c.1 in
    (λ i. record { root = a.0 i; target = b.0 i; first = c.0 i; last = d.0 i }, d.1)

-- a step's tag, and what follows it
abbrev tag : Step → ℕ
tag (Window w) = 6
tag (Range r) = 7
tag Balance = 8

abbrev value : Step → List ℕ
value (Window w) = window_bytes w
value (Range r) = range_bytes r
value Balance = []

step_front : (s : Step) (r : List ℕ) → step_bytes s ++ r ≡ tag s ∷ (value s ++ r)
unfolding be step_bytes
step_front (Window w) r = refl
step_front (Range w) r = refl
step_front Balance r = refl

value_one : (s t : Step) (r q : List ℕ) → StepFits s → StepFits t → tag s ∷ (value s ++ r) ≡ tag t ∷ (value t ++ q) → (s ≡ t) × (r ≡ q)
value_one (Window w) (Window v) r q fs ft e =
    let rest : window_bytes w ++ r ≡ window_bytes v ++ q = cc in
    let p = window_one w v r q fs ft rest in
    (ap (λ (z : WindowStep). Window z) p.0, p.1)
value_one (Range w) (Range v) r q fs ft e =
    let rest : range_bytes w ++ r ≡ range_bytes v ++ q = cc in
    let p = range_one w v r q fs ft rest in
    (ap (λ (z : RangeStep). Range z) p.0, p.1)
value_one Balance Balance r q fs ft e = let rest : r ≡ q = cc in (refl, rest)
value_one (Window w) (Range v) r q fs ft e = let z : ◌≡◌ {A = ℕ} 6 7 = cc in absurd (omega arith)
value_one (Window w) Balance r q fs ft e = let z : ◌≡◌ {A = ℕ} 6 8 = cc in absurd (omega arith)
value_one (Range w) (Window v) r q fs ft e = let z : ◌≡◌ {A = ℕ} 7 6 = cc in absurd (omega arith)
value_one (Range w) Balance r q fs ft e = let z : ◌≡◌ {A = ℕ} 7 8 = cc in absurd (omega arith)
value_one Balance (Window v) r q fs ft e = let z : ◌≡◌ {A = ℕ} 8 6 = cc in absurd (omega arith)
value_one Balance (Range v) r q fs ft e = let z : ◌≡◌ {A = ℕ} 8 7 = cc in absurd (omega arith)

pub step_one : (s t : Step) (r q : List ℕ) → StepFits s → StepFits t → step_bytes s ++ r ≡ step_bytes t ++ q → (s ≡ t) × (r ≡ q)
step_one s t r q fs ft e = value_one s t r q fs ft (sym (step_front s r) ∙ e ∙ step_front t q)

pub length_head : (h : Head) → length (head_bytes h) ≡ 7
unfolding head_bytes be
length_head h = refl

pub length_row : (j : Joint) → length (row_bytes j) ≡ 7
unfolding row_bytes be
length_row j = refl

length_window : (w : WindowStep) → length (window_bytes w) ≡ 19
unfolding window_bytes be
length_window w = refl

length_range : (w : RangeStep) → length (range_bytes w) ≡ 19
unfolding range_bytes be
length_range w = refl

-- bytes that begin with a part are not cut off
begun : {V : Type 0} (bytes : V → List ℕ) (size : ℕ) → ((v : V) → length (bytes v) ≡ size) → (v : V) (r : List ℕ) (n : ℕ) → Cut size n (bytes v ++ r) → ⊥
begun bytes size long v r n c = omega (arith, c.short, length-append (bytes v) r, long v)

pub head_begun : (h : Head) (r : List ℕ) (n : ℕ) → Cut 7 n (head_bytes h ++ r) → ⊥
head_begun = begun head_bytes 7 length_head

pub row_begun : (j : Joint) (r : List ℕ) (n : ℕ) → Cut 7 n (row_bytes j ++ r) → ⊥
row_begun = begun row_bytes 7 length_row

value_begun : (s : Step) (r : List ℕ) (n : ℕ) → TagFault n (tag s ∷ (value s ++ r)) → ⊥
value_begun (Window w) r n (inl u) = let e : 6 ≡ u.tag = cc u.begins in u.not_window (sym e)
value_begun (Range w) r n (inl u) = let e : 7 ≡ u.tag = cc u.begins in u.not_range (sym e)
value_begun Balance r n (inl u) = let e : 8 ≡ u.tag = cc u.begins in u.not_balance (sym e)
value_begun (Window w) r n (inr u) = omega (arith, u.cut.short, length-append (window_bytes w) r, length_window w)
value_begun (Range w) r n (inr u) = omega (arith, u.cut.short, length-append (range_bytes w) r, length_range w)
value_begun Balance r n (inr u) = let e : 8 ≡ u.tag = cc u.begins in other u.known e
  where
    other : {t : ℕ} → (t ≡ 6) ⊎ (t ≡ 7) → 8 ≡ t → ⊥
    other (inl p) e = omega arith
    other (inr p) e = omega arith

-- bytes that begin with a step have a known tag, and are not cut off
pub step_begun : (s : Step) (r : List ℕ) (n : ℕ) → TagFault n (step_bytes s ++ r) → ⊥
step_begun s r n f = value_begun s r n (rw step_front at f)

pub cut_one : (size n m : ℕ) (r : List ℕ) → Cut size n r → Cut size m r → n ≡ m
cut_one size n m r c d = c.number ∙ sym d.number

-- an unknown tag is not cut off
unknown_uncut : (n m : ℕ) (r : List ℕ) → Unknown n r → CutStep m r → ⊥
unknown_uncut n m r u v =
    let e : u.tag ≡ v.tag = cc (u.begins, v.begins) in
    known_not v.known e u.not_window u.not_range
  where
    known_not : {s t : ℕ} → (t ≡ 6) ⊎ (t ≡ 7) → s ≡ t → (s ≡ 6 → ⊥) → (s ≡ 7 → ⊥) → ⊥
    known_not (inl p) e a b = a (e ∙ p)
    known_not (inr p) e a b = b (e ∙ p)

pub tag_one : (n m : ℕ) (r : List ℕ) → TagFault n r → TagFault m r → n ≡ m
tag_one n m r (inl u) (inl v) = u.number ∙ sym v.number
tag_one n m r (inr u) (inr v) = u.cut.number ∙ sym v.cut.number
tag_one n m r (inl u) (inr v) = absurd (unknown_uncut n m r u v)
tag_one n m r (inr u) (inl v) = absurd (unknown_uncut m n r v u)
