-- The anchor and the type of a triangle and its place, digit by digit.
use Rattle.std.proofs.Common.{◌≡◌, ℕ, zero, suc, ◌+◌, ◌-◌, ◌*◌, ◌/◌, ◌%◌, ◌^◌, ◌<◌, ◌≤◌, refl, ap, ◌∙◌, mul_comm, pow-suc, arith}
use Rattle.std.proofs.lemmas.Bool.Decides.{nat_tests}
use Rattle.models.specs.declared.anchor.Anchor.{Anchor}
use Rattle.models.specs.Triangle.{triangle_child, triangle_x, triangle_y, triangle_type, triangle_at, triangle_parent, triangle_number}
use Rattle.models.specs.Moving.{anchor, triangle_anchor, child_of}
use Rattle.models.proofs.Halves.{four_power, next_two_bits, four_power_small}
use Rattle.models.proofs.Weaving.{step}
use Rattle.models.proofs.TriangleCells.{type_lt, at_lt}

-- the cell, from the first digit on: n digits are left
pub anchor_start : (l p : ℕ) → anchor 0 0 0 ≡ triangle_anchor (l - l) (p / 2 ^ (2 * l))
unfolding triangle_x triangle_y triangle_type
anchor_start l p = let none : l - l ≡ 0 = omega arith in rw none

child_at : (l q : ℕ) → child_of (triangle_anchor l (q / 4)) (q % 4) ≡ triangle_anchor (suc l) q
unfolding triangle_x triangle_y triangle_type
child_at l q = refl

pub anchor_more : (l n p : ℕ) (c : Anchor) → 0 < n → n ≤ l → c ≡ triangle_anchor (l - n) (p / 2 ^ (2 * n)) →
    child_of c (p / 2 ^ (2 * (n - 1)) % 4) ≡ triangle_anchor (l - (n - 1)) (p / 2 ^ (2 * (n - 1)))
anchor_more l zero p c pos h e = absurd (omega arith)
anchor_more l (suc n) p c pos h e =
    let one : suc n - 1 ≡ n = omega arith in
    let more : l - n ≡ suc (l - suc n) = omega arith in
    let q = p / 2 ^ (2 * n) in
    let parent : c ≡ triangle_anchor (l - suc n) (q / 4) = e ∙ rw (next_two_bits p n) in
    rw (one, more) (ap (λ (b : Anchor). child_of b (q % 4)) parent ∙ child_at (l - suc n) q)

type_of_child : (t i : ℕ) → t < 2 → ((i ≡ 1) → (triangle_child t i).2 ≡ 0) × ((i ≡ 2) → (triangle_child t i).2 ≡ 1) × (i < 4 → (i ≡ 1 → ⊥) → (i ≡ 2 → ⊥) → (triangle_child t i).2 ≡ t)
type_of_child t i h = ((λ e. grind (arith, nat_tests)), (λ e. grind (arith, nat_tests)), (λ small n1 n2. grind (arith, nat_tests, n1, n2)))

module _ (l i p : ℕ) (h : i < l) where
  last_type : triangle_type (l - i) (p / 2 ^ (2 * i)) ≡ (triangle_child (triangle_type (l - suc i) (p / 2 ^ (2 * suc i))) (p / 2 ^ (2 * i) % 4)).2
  unfolding triangle_type
  last_type = let more : l - i ≡ suc (l - suc i) = omega arith in rw (more, next_two_bits p i)

  pub type_one : p / 2 ^ (2 * i) % 4 ≡ 1 → triangle_type (l - i) (p / 2 ^ (2 * i)) ≡ 0
  type_one e = last_type ∙ (type_of_child (triangle_type (l - suc i) (p / 2 ^ (2 * suc i))) (p / 2 ^ (2 * i) % 4) (type_lt (l - suc i) (p / 2 ^ (2 * suc i)))).0 e

  pub type_two : p / 2 ^ (2 * i) % 4 ≡ 2 → triangle_type (l - i) (p / 2 ^ (2 * i)) ≡ 1
  type_two e = last_type ∙ (type_of_child (triangle_type (l - suc i) (p / 2 ^ (2 * suc i))) (p / 2 ^ (2 * i) % 4) (type_lt (l - suc i) (p / 2 ^ (2 * suc i)))).1 e

  pub type_kept : (p / 2 ^ (2 * i) % 4 ≡ 1 → ⊥) → (p / 2 ^ (2 * i) % 4 ≡ 2 → ⊥) →
      triangle_type (l - i) (p / 2 ^ (2 * i)) ≡ triangle_type (l - suc i) (p / 2 ^ (2 * suc i))
  type_kept n1 n2 =
      last_type ∙ (type_of_child (triangle_type (l - suc i) (p / 2 ^ (2 * suc i))) (p / 2 ^ (2 * i) % 4) (type_lt (l - suc i) (p / 2 ^ (2 * suc i)))).2 (omega arith) n1 n2

pub type_done : (l i p : ℕ) → l ≤ i → triangle_type (l - i) (p / 2 ^ (2 * i)) ≡ 0
unfolding triangle_type
type_done l i p h = let none : l - i ≡ 0 = omega arith in rw none

-- the place, from the last digit back: i digits are woven into acc
pub record Woven (l i x y t acc place : ℕ) : Type 0 where
  pub sum : triangle_at (l - i) x y t * 4 ^ i + acc ≡ place
  pub type : t < 2

parent_lt : (dx dy t : ℕ) → dx < 2 → dy < 2 → t < 2 → triangle_parent dx dy t < 2
parent_lt dx dy t hx hy ht = grind (arith, nat_tests)

-- a digit, shifted
pub shifted : (n i : ℕ) → n * 4 ^ i < 68719476736 → n * 2 ^ (2 * i) % 18446744073709551616 ≡ n * 4 ^ i
shifted n i h = rw (four_power i) (omega (arith, h))

module _ (l i x y t acc place : ℕ) (h : i < l) (w : Woven l i x y t acc place) where
  sum_more : triangle_at (l - suc i) (x / 2) (y / 2) (triangle_parent (x % 2) (y % 2) t) * 4 ^ suc i + (acc + triangle_number (x % 2) (y % 2) t * 4 ^ i) ≡ place
  unfolding triangle_at
  sum_more =
      let d = triangle_number (x % 2) (y % 2) t in
      let up = triangle_at (l - suc i) (x / 2) (y / 2) (triangle_parent (x % 2) (y % 2) t) in
      let more : l - i ≡ suc (l - suc i) = omega arith in
      let before : (up * 4 + d) * 4 ^ i + acc ≡ place = rw more at w.sum in
      let moved : (up * 4 + d) * 4 ^ i + acc ≡ up * (4 * 4 ^ i) + (d * 4 ^ i + acc) = step up 4 d (4 ^ i) acc in
      let unit : 4 ^ suc i ≡ 4 * 4 ^ i = pow-suc 4 i ∙ mul_comm (4 ^ i) 4 in
      rw unit (omega (arith, before, moved))

  number_small : place < 68719476736 → triangle_number (x % 2) (y % 2) t * 4 ^ i < 68719476736
  number_small small = omega (arith, sum_more)

  -- the digit n, shifted, is added, and the cell above has the type u
  module _ (n u : ℕ) (small : place < 68719476736) (number : n ≡ triangle_number (x % 2) (y % 2) t) (parent : u ≡ triangle_parent (x % 2) (y % 2) t) where
    added : n * 2 ^ (2 * i) % 18446744073709551616 ≡ triangle_number (x % 2) (y % 2) t * 4 ^ i
    added = rw number (shifted (triangle_number (x % 2) (y % 2) t) i (number_small small))

    pub woven_more : Woven l (suc i) (x / 2) (y / 2) u (acc + n * 2 ^ (2 * i) % 18446744073709551616) place
    woven_more = rw (added, parent) (record { sum = sum_more; type = parent_lt (x % 2) (y % 2) t (omega arith) (omega arith) w.type })

  pub woven_fits : (n : ℕ) → place < 68719476736 → n ≡ triangle_number (x % 2) (y % 2) t → acc + n * 2 ^ (2 * i) % 18446744073709551616 < 68719476736
  woven_fits n small number = omega (arith, sum_more, added n (triangle_parent (x % 2) (y % 2) t) small number refl)

pub woven_done : (l i x y t acc place : ℕ) → l ≤ i → Woven l i x y t acc place → acc ≡ place
unfolding triangle_at
woven_done l i x y t acc place h w =
    let none : l - i ≡ 0 = omega arith in
    let sum : 0 * 4 ^ i + acc ≡ place = rw none at w.sum in
    omega (arith, sum)

pub at_small : (l x y t : ℕ) → l ≤ 18 → t < 2 → triangle_at l x y t < 68719476736
at_small l x y t h ht = omega (arith, at_lt l x y t ht, four_power_small l h)
