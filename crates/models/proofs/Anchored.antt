-- The cell at a place, behind the test that the place is there.
use Rattle.std.proofs.Common.{◌≡◌, ℕ, ◌^◌, ◌<◌, ◌≤◌, true, cond, ◌&&◌, ltb, leb, ◌↔◌, is_some, Some, None, sym, ap, arith}
use Rattle.std.proofs.lemmas.Bool.Decides.{nat_tests}
use Rattle.models.specs.declared.anchor.Anchor.{Anchor}
use Rattle.models.proofs.Converting.{tested_some, both_tests, tests_both}

same_anchor : (a c : Anchor) → c.x ≡ a.x → c.y ≡ a.y → c.ty ≡ a.ty → a ≡ c
same_anchor a c ex ey et = λ i. record { x = sym ex i; y = sym ey i; ty = sym et i }

pub anchored_iff : (D l p : ℕ) (a c : Anchor) →
    (cond (leb l D && ltb p (4 ^ l)) (Some a) None ≡ Some c) ↔ ((l ≤ D) × (p < 4 ^ l) × (c.x ≡ a.x) × (c.y ≡ a.y) × (c.ty ≡ a.ty))
anchored_iff D l p a c = (there, here)
  where
    there : cond (leb l D && ltb p (4 ^ l)) (Some a) None ≡ Some c → (l ≤ D) × (p < 4 ^ l) × (c.x ≡ a.x) × (c.y ≡ a.y) × (c.ty ≡ a.ty)
    there e =
        let z = tested_some (leb l D && ltb p (4 ^ l)) (Some a) c e in
        let (hl, hp) = tests_both l D p (4 ^ l) z.0 in
        let same : c ≡ a = cc z.1 in
        (hl, hp, ap (λ (b : Anchor). b.x) same, ap (λ (b : Anchor). b.y) same, ap (λ (b : Anchor). b.ty) same)

    here : (l ≤ D) × (p < 4 ^ l) × (c.x ≡ a.x) × (c.y ≡ a.y) × (c.ty ≡ a.ty) → cond (leb l D && ltb p (4 ^ l)) (Some a) None ≡ Some c
    here (hl, hp, ex, ey, et) = rw (both_tests l D p (4 ^ l) hl hp) (ap (λ (b : Anchor). Some b) (same_anchor a c ex ey et))

-- there is a cell at exactly the places there are
pub anchored_some : (D l p : ℕ) (a : Anchor) → (is_some (cond (leb l D && ltb p (4 ^ l)) (Some a) None) ≡ true) ↔ ((l ≤ D) × (p < 4 ^ l))
anchored_some D l p a = ((λ e. grind (arith, nat_tests)), (λ c. grind (arith, nat_tests)))

-- two ways to say the same
pub both_ways : {A B C : Type 0} → A ↔ C → B ↔ C → A ↔ B
both_ways f g = ((λ x. g.1 (f.0 x)), (λ y. f.1 (g.0 y)))
