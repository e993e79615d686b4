-- A scheme's answers behind a test, and converted into those of another scheme.
use Rattle.std.proofs.Common.{◌≡◌, ℕ, ◌<◌, ◌≤◌, Bool, true, false, cond, ◌&&◌, ltb, leb, is_some, Some, None, Option, refl, ap, arith}
use Rattle.std.proofs.lemmas.Bool.{ltb-true, leb-true, lt-ltb, le-leb, and_parts, and_from}
use Rattle.scheme.specs.declared.crossing.Crossing.{Crossing}
use Rattle.scheme.specs.declared.crossing.Crossing.TheVariants.{Inside, Edge}
use Rattle.models.specs.Product.{crossed, faced, numbered}

-- an answer behind a test
pub tested_some : {A : Type 0} (b : Bool) (o : Option A) (x : A) → cond b o None ≡ Some x → (b ≡ true) × (o ≡ Some x)
tested_some true o x e = (refl, e)
tested_some false o x e = (cc e, cc e)

pub tested_is : {A : Type 0} (b : Bool) (o : Option A) → is_some (cond b o None) ≡ true → (b ≡ true) × (is_some o ≡ true)
tested_is true o e = (refl, e)
tested_is false o e = (cc e, cc e)

pub both_tests : (a b c d : ℕ) → a ≤ b → c < d → (leb a b && ltb c d) ≡ true
both_tests a b c d x y = and_from (leb a b) (ltb c d) (le-leb a b x) (lt-ltb c d y)

pub tests_both : (a b c d : ℕ) → (leb a b && ltb c d) ≡ true → (a ≤ b) × (c < d)
tests_both a b c d e = let z = and_parts (leb a b) (ltb c d) e in (leb-true a b z.0, ltb-true c d z.1)

pub three_tests : (a b c d p q : ℕ) → a < b → c < d → p < q → (ltb a b && (ltb c d && ltb p q)) ≡ true
three_tests a b c d p q x y z = and_from (ltb a b) (ltb c d && ltb p q) (lt-ltb a b x) (and_from (ltb c d) (ltb p q) (lt-ltb c d y) (lt-ltb p q z))

pub tests_three : (a b c d p q : ℕ) → (ltb a b && (ltb c d && ltb p q)) ≡ true → (a < b) × (c < d) × (p < q)
tests_three a b c d p q e =
    let z = and_parts (ltb a b) (ltb c d && ltb p q) e in
    let y = and_parts (ltb c d) (ltb p q) z.1 in
    (ltb-true a b z.0, ltb-true c d y.0, ltb-true p q y.1)

-- what a converted answer comes from
module _ (place edge face : ℕ → ℕ) where
  pub crossed_inside : (o : Option Crossing) (q g : ℕ) → crossed place edge face o ≡ Some (Inside (q, g)) →
      (q' : ℕ) × (g' : ℕ) × (o ≡ Some (Inside (q', g'))) × (q ≡ place q') × (g ≡ face g')
  crossed_inside None q g e = absurd (let z : ◌≡◌ {A = ℕ} 0 1 = cc e in omega arith)
  crossed_inside (Some (Edge g' n)) q g e = absurd (let z : ◌≡◌ {A = ℕ} 0 1 = cc e in omega arith)
  crossed_inside (Some (Inside (q', g'))) q g e =
      let z : ◌≡◌ {A = ℕ × ℕ} (q, g) (place q', face g') = cc e in
      (q', g', refl, ap (λ (z : ℕ × ℕ). z.0) z, ap (λ (z : ℕ × ℕ). z.1) z)

  pub crossed_edge : (o : Option Crossing) (g n : ℕ) → crossed place edge face o ≡ Some (Edge g n) →
      (g' : ℕ) × (n' : ℕ) × (o ≡ Some (Edge g' n')) × (g ≡ face g') × (n ≡ edge n')
  crossed_edge None g n e = absurd (let z : ◌≡◌ {A = ℕ} 0 1 = cc e in omega arith)
  crossed_edge (Some (Edge g' n')) g n e = (g', n', refl, cc e, cc e)
  crossed_edge (Some (Inside (q, g'))) g n e = absurd (let z : ◌≡◌ {A = ℕ} 0 1 = cc e in omega arith)

  pub crossed_is : (o : Option Crossing) → is_some (crossed place edge face o) ≡ is_some o
  crossed_is None = refl
  crossed_is (Some (Edge g n)) = refl
  crossed_is (Some (Inside (q, g))) = refl

module _ (place face : ℕ → ℕ) where
  pub faced_some : (o : Option (ℕ × ℕ)) (q g : ℕ) → faced place face o ≡ Some (q, g) →
      (q' : ℕ) × (g' : ℕ) × (o ≡ Some (q', g')) × (q ≡ place q') × (g ≡ face g')
  faced_some None q g e = absurd (let z : ◌≡◌ {A = ℕ} 0 1 = cc e in omega arith)
  faced_some (Some (q', g')) q g e =
      let z : ◌≡◌ {A = ℕ × ℕ} (q, g) (place q', face g') = cc e in
      (q', g', refl, ap (λ (z : ℕ × ℕ). z.0) z, ap (λ (z : ℕ × ℕ). z.1) z)

  pub faced_is : (o : Option (ℕ × ℕ)) → is_some (faced place face o) ≡ is_some o
  faced_is None = refl
  faced_is (Some (q, g)) = refl

module _ (edge : ℕ → ℕ) where
  pub numbered_some : (o : Option ℕ) (n : ℕ) → numbered edge o ≡ Some n → (n' : ℕ) × (o ≡ Some n') × (n ≡ edge n')
  numbered_some None n e = absurd (let z : ◌≡◌ {A = ℕ} 0 1 = cc e in omega arith)
  numbered_some (Some n') n e = (n', refl, cc e)

  pub numbered_is : (o : Option ℕ) → is_some (numbered edge o) ≡ is_some o
  numbered_is None = refl
  numbered_is (Some n) = refl
