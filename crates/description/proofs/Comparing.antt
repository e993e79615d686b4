-- Two lists of good parts, each in front of a rest, that are the same bytes: one is the other, or a front of it, and then its rest begins with a good part.
use Rattle.std.proofs.Common.{◌≡◌, ℕ, ◌<◌, ◌⊎◌, List, [], ◌∷◌, ◌++◌, length, sym, refl, ◌∙◌, subst, inl, inr, append_assoc, arith}
use Rattle.std.specs.List.{All, flat_map}
use Rattle.std.proofs.lemmas.List.Elements.{All-head, All-tail}
use Rattle.description.specs.Faults.{Beyond}

-- the bytes begin with a good part
pub record Begun {V : Type 0} (bytes : V → List ℕ) (Good : V → Type 0) (r : List ℕ) : Type 0 where
  pub part : V
  pub more : List ℕ
  pub good : Good part
  pub begins : r ≡ bytes part ++ more

-- Early are the faults that are found before the values: a part is told by its bytes, and one that stands there is not cut off
module _ {V : Type 0} (bytes : V → List ℕ) (Fits Good : V → Type 0) (Early : ℕ → List ℕ → Type 0)
    (one : (v w : V) (r s : List ℕ) → Fits v → Fits w → bytes v ++ r ≡ bytes w ++ s → (v ≡ w) × (r ≡ s)) (fits : (v : V) → Good v → Fits v)
    (begun : (v : V) (r : List ℕ) (n : ℕ) → Early n (bytes v ++ r) → ⊥) (early_one : (n m : ℕ) (r : List ℕ) → Early n r → Early m r → n ≡ m) where
  -- what begins with a good part is not at fault
  pub no_fault : (n : ℕ) (r : List ℕ) → Begun bytes Good r → Early n r ⊎ Beyond bytes Fits Good n r → ⊥
  no_fault n r b (inl e) = begun b.part b.more n (subst (λ (z : List ℕ). Early n z) b.begins e)
  no_fault n r b (inr o) =
      let p = one o.value b.part o.more b.more o.fits (fits b.part b.good) (sym o.begins ∙ b.begins) in
      o.beyond (subst Good (sym p.0) b.good)

  -- a fault has one number
  pub one_fault : (n m : ℕ) (r : List ℕ) → Early n r ⊎ Beyond bytes Fits Good n r → Early m r ⊎ Beyond bytes Fits Good m r → n ≡ m
  one_fault n m r (inl e) (inl f) = early_one n m r e f
  one_fault n m r (inr o) (inr q) = o.number ∙ sym q.number
  one_fault n m r (inl e) (inr q) = absurd (begun q.value q.more n (subst (λ (z : List ℕ). Early n z) q.begins e))
  one_fault n m r (inr o) (inl f) = absurd (begun o.value o.more m (subst (λ (z : List ℕ). Early m z) o.begins f))

  pub compare : (xs ys : List V) (r s : List ℕ) → All Good xs → All Good ys → flat_map bytes xs ++ r ≡ flat_map bytes ys ++ s →
      ((xs ≡ ys) × (r ≡ s)) ⊎ (((length xs < length ys) × Begun bytes Good r) ⊎ ((length ys < length xs) × Begun bytes Good s))
  compare [] [] r s gx gy e = inl (refl, e)
  compare [] (y ∷ ys) r s gx gy e =
      inr (inl (omega arith, record { part = y; more = flat_map bytes ys ++ s; good = All-head Good y ys gy; begins = e ∙ append_assoc (bytes y) (flat_map bytes ys) s }))
  compare (x ∷ xs) [] r s gx gy e =
      inr (inr (omega arith, record { part = x; more = flat_map bytes xs ++ r; good = All-head Good x xs gx; begins = sym e ∙ append_assoc (bytes x) (flat_map bytes xs) r }))
  compare (x ∷ xs) (y ∷ ys) r s gx gy e =
      let p = one x y (flat_map bytes xs ++ r) (flat_map bytes ys ++ s) (fits x (All-head Good x xs gx)) (fits y (All-head Good y ys gy))
      (sym (append_assoc (bytes x) (flat_map bytes xs) r) ∙ e ∙ append_assoc (bytes y) (flat_map bytes ys) s) in
      lift p.0 (compare xs ys r s (All-tail Good x xs gx) (All-tail Good y ys gy) p.1)
    where
      lift : x ≡ y → ((xs ≡ ys) × (r ≡ s)) ⊎ (((length xs < length ys) × Begun bytes Good r) ⊎ ((length ys < length xs) × Begun bytes Good s)) →
          ((x ∷ xs ≡ y ∷ ys) × (r ≡ s)) ⊎ (((length (x ∷ xs) < length (y ∷ ys)) × Begun bytes Good r) ⊎ ((length (y ∷ ys) < length (x ∷ xs)) × Begun bytes Good s))
      lift h (inl t) = let l : x ∷ xs ≡ y ∷ ys = cc (h, t.0) in inl (l, t.1)
      lift h (inr (inl t)) = inr (inl (omega arith, t.1))
      lift h (inr (inr t)) = inr (inr (omega arith, t.1))
