-- Values at the front of a list of bytes: any bytes that are enough are those of some value.
use Rattle.std.proofs.Common.{get_or, take, drop, inl, inr, ◌≡◌, ℕ, ◌<◌, ◌≤◌, List, ◌∷◌, ◌++◌, length, sym, refl, ap, ◌∙◌, append_assoc, arith}
use Rattle.std.specs.List.{All}
use Rattle.std.proofs.lemmas.List.Elements.{All-tail, All-take, All-drop}
use Rattle.std.proofs.lemmas.Bool.{cases_lt}
use Rattle.std.proofs.lemmas.List.{length-take-le, get_or_past, take-append-drop}
use Rattle.description.specs.Format.{head_bytes, row_bytes, window_bytes, range_bytes}
use Rattle.description.specs.Bounds.{HeadFits, RowFits, WindowFits, RangeFits}
use Rattle.description.proofs.Values.{Holds, head_holds, row_holds, window_holds, range_holds}

abbrev pub Bytes : List ℕ → Type 0
Bytes bs = All (λ b. b < 256) bs

pub bytes_after : (b : ℕ) (bs : List ℕ) → Bytes (b ∷ bs) → Bytes bs
bytes_after b bs all = All-tail (λ b. b < 256) b bs all

-- a list, and two that it is made of
pub record Split (bs part rest : List ℕ) : Type 0 where
  pub is : bs ≡ part ++ rest

-- one part of a list and then another
pub on : {bs p r q s : List ℕ} → Split bs p r → Split r q s → Split bs (p ++ q) s
on {bs} {p} {r} {q} {s} d e = record { is = d.is ∙ ap (λ (z : List ℕ). p ++ z) e.is ∙ sym (append_assoc p q s) }

-- a value of which P holds, whose bytes stand at the front
pub record Front {V : Type 0} (bytes : V → List ℕ) (P : V → Type 0) (bs : List ℕ) : Type 0 where
  pub value : V
  pub rest : List ℕ
  pub holds : P value
  pub split : Split bs (bytes value) rest
  pub are_bytes : Bytes rest

-- what holds of the first n bytes stands at the front
front_of : {V : Type 0} (bytes : V → List ℕ) (P : V → Type 0) (n : ℕ) (bs : List ℕ) (v : V) → Bytes bs → Holds bytes P (take n bs) v → Front bytes P bs
front_of bytes P n bs v all h = record {
  value = v;
  rest = drop n bs;
  holds = h.fits;
  split = record { is = sym (take-append-drop n bs) ∙ ap (λ (z : List ℕ). z ++ drop n bs) h.is };
  are_bytes = All-drop (λ b. b < 256) n bs all;
}

-- each item of a list of bytes is a byte, and so is what is read past its end
bytes_fit : (bs : List ℕ) → Bytes bs → (i : ℕ) → get_or bs i 0 < 256
bytes_fit bs all i = elim (cases_lt i (length bs)) [
  | inl lt ↦ all i 0 lt
  | inr ge ↦ rw (get_or_past bs i 0 ge) (omega arith)
]

front_fit : (n : ℕ) (bs : List ℕ) → Bytes bs → (i : ℕ) → get_or (take n bs) i 0 < 256
front_fit n bs all = bytes_fit (take n bs) (All-take (λ b. b < 256) n bs all)

pub head_at : (bs : List ℕ) → Bytes bs → 7 ≤ length bs → Front head_bytes HeadFits bs
head_at bs all room = front_of head_bytes HeadFits 7 bs _ all (head_holds (take 7 bs) (front_fit 7 bs all) (length-take-le 7 bs room) _ _ _ refl refl refl)

pub row_at : (bs : List ℕ) → Bytes bs → 7 ≤ length bs → Front row_bytes RowFits bs
row_at bs all room = front_of row_bytes RowFits 7 bs _ all (row_holds (take 7 bs) (front_fit 7 bs all) (length-take-le 7 bs room) _ _ refl refl)

pub window_at : (bs : List ℕ) → Bytes bs → 19 ≤ length bs → Front window_bytes WindowFits bs
window_at bs all room =
    front_of window_bytes WindowFits 19 bs _ all (window_holds (take 19 bs) (front_fit 19 bs all) (length-take-le 19 bs room) _ _ _ _ _ refl refl refl refl refl)

pub range_at : (bs : List ℕ) → Bytes bs → 19 ≤ length bs → Front range_bytes RangeFits bs
range_at bs all room = front_of range_bytes RangeFits 19 bs _ all (range_holds (take 19 bs) (front_fit 19 bs all) (length-take-le 19 bs room) _ _ _ refl refl refl)
