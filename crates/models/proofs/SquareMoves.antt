-- A carry through the bits of one coordinate leads to the square across the face.
use Rattle.std.proofs.Common.{◌≡◌, ℕ, zero, suc, ◌+◌, ◌-◌, ◌*◌, ◌/◌, ◌%◌, ◌^◌, ◌<◌, cond, eqb, Some, None, sym, refl, ap, ◌∙◌, inl, inr, add_comm, pow-suc, arith}
use lib.Bits.{bit_and, bit_or}
use Rattle.std.proofs.lemmas.Bool.{eq-eqb, ne_eqb, cases_eq}
use Rattle.std.proofs.lemmas.Bool.Decides.{nat_tests}
use Rattle.scheme.specs.declared.crossing.Crossing.TheVariants.{Inside, Edge}
use Rattle.models.specs.Square.{square_x, square_y, square_at, square_step}
use Rattle.models.specs.Moving.{lowered, raised, square_beyond, square_opposite, square_number}
use Rattle.models.proofs.Carry.{bit, spread, mask, Axis, x_axis, y_axis, own_part, carry, borrow, spread_zero, zero_spread, last_mask, mask_last}
use Rattle.models.proofs.SquareCells.{x_lt, y_lt, place_back}

-- the bits of x count 1 in each digit of the place, those of y count 2
at_spread : (l x y : ℕ) → square_at l x y ≡ spread 1 l x + spread 2 l y
unfolding square_at
at_spread zero x y = refl
at_spread (suc l) x y =
    let ones : bit 1 (x % 2) ≡ x % 2 = one_bit (x % 2) (omega arith) in
    let twos : bit 2 (y % 2) ≡ y % 2 * 2 = two_bit (y % 2) (omega arith) in
    rw (at_spread l (x / 2) (y / 2), ones, twos) (omega arith)
  where
    one_bit : (d : ℕ) → d < 2 → bit 1 d ≡ d
    one_bit zero h = refl
    one_bit (suc zero) h = refl
    one_bit (suc (suc d)) h = absurd (omega arith)

    two_bit : (d : ℕ) → d < 2 → bit 2 d ≡ d * 2
    two_bit zero h = refl
    two_bit (suc zero) h = refl
    two_bit (suc (suc d)) h = absurd (omega arith)

at_spread' : (l x y : ℕ) → square_at l x y ≡ spread 2 l y + spread 1 l x
at_spread' l x y = at_spread l x y ∙ add_comm (spread 1 l x) (spread 2 l y)

-- along one axis, with a along it and b beside it
module _ (u v : ℕ) (ax : Axis u v) (other : Axis v u) (l p a b : ℕ) (is : p ≡ spread u l a + spread v l b) (small : a < 2 ^ l) where
  own_bits : bit_and p (mask u l) ≡ spread u l a
  own_bits = ap (λ z. bit_and z (mask u l)) is ∙ own_part u v ax l a b

  other_bits : bit_and p (mask v l) ≡ spread v l b
  other_bits = ap (λ z. bit_and z (mask v l)) (is ∙ add_comm (spread u l a) (spread v l b)) ∙ own_part v u other l b a

  lowered_is : lowered p (mask u l) (mask v l) ≡ cond (eqb a 0) None (Some (spread u l (a - 1) + spread v l b))
  lowered_is = elim (cases_eq a 0) [
    | inl z ↦ (
        let gone : bit_and p (mask u l) ≡ 0 = own_bits ∙ ap (spread u l) z ∙ spread_zero u v ax l in
        rw (eq-eqb (bit_and p (mask u l)) 0 gone, eq-eqb a 0 z))
    | inr some ↦ (
        let there : bit_and p (mask u l) ≡ 0 → ⊥ = λ e. some (zero_spread u v ax l a small (sym own_bits ∙ e)) in
        rw (ne_eqb (bit_and p (mask u l)) 0 there, ne_eqb a 0 some, own_bits, other_bits)
        (ap (λ n. Some n) (borrow u v ax l a b (omega (arith, some)) small)))
  ]

  raised_is : raised p (mask u l) (mask v l) ≡ cond (eqb (suc a) (2 ^ l)) None (Some (spread u l (suc a) + spread v l b))
  raised_is = elim (cases_eq (suc a) (2 ^ l)) [
    | inl z ↦ (
        let all : bit_and p (mask u l) ≡ mask u l = own_bits ∙ last_mask u v ax l a z in
        rw (eq-eqb (bit_and p (mask u l)) (mask u l) all, eq-eqb (suc a) (2 ^ l) z))
    | inr ne ↦ (
        let more : bit_and p (mask u l) ≡ mask u l → ⊥ = λ e. ne (mask_last u v ax l a small (sym own_bits ∙ e)) in
        let up : suc a < 2 ^ l = grind (arith, ne) in
        rw (ne_eqb (bit_and p (mask u l)) (mask u l) more, ne_eqb (suc a) (2 ^ l) ne, other_bits)
        (ap (λ z. Some (bit_or (bit_and (bit_or z (mask v l) + 1) (mask u l)) (spread v l b))) is ∙ ap (λ n. Some n) (carry u v ax l a b up)))
  ]

module _ (l p : ℕ) (h : p < 4 ^ l) where
  whole : p ≡ spread 1 l (square_x l p) + spread 2 l (square_y l p)
  whole = sym (place_back l p h) ∙ at_spread l (square_x l p) (square_y l p)

  whole' : p ≡ spread 2 l (square_y l p) + spread 1 l (square_x l p)
  whole' = sym (place_back l p h) ∙ at_spread' l (square_x l p) (square_y l p)

  pub lowered_x : lowered p (mask 1 l) (mask 2 l) ≡ cond (eqb (square_x l p) 0) None (Some (square_at l (square_x l p - 1) (square_y l p)))
  lowered_x = rw (at_spread l (square_x l p - 1) (square_y l p)) (lowered_is 1 2 x_axis y_axis l p (square_x l p) (square_y l p) whole (x_lt l p))

  pub raised_x : raised p (mask 1 l) (mask 2 l) ≡ cond (eqb (suc (square_x l p)) (2 ^ l)) None (Some (square_at l (suc (square_x l p)) (square_y l p)))
  raised_x = rw (at_spread l (suc (square_x l p)) (square_y l p)) (raised_is 1 2 x_axis y_axis l p (square_x l p) (square_y l p) whole (x_lt l p))

  pub lowered_y : lowered p (mask 2 l) (mask 1 l) ≡ cond (eqb (square_y l p) 0) None (Some (square_at l (square_x l p) (square_y l p - 1)))
  lowered_y = rw (at_spread' l (square_x l p) (square_y l p - 1)) (lowered_is 2 1 y_axis x_axis l p (square_y l p) (square_x l p) whole' (y_lt l p))

  pub raised_y : raised p (mask 2 l) (mask 1 l) ≡ cond (eqb (suc (square_y l p)) (2 ^ l)) None (Some (square_at l (square_x l p) (suc (square_y l p))))
  raised_y = rw (at_spread' l (square_x l p) (suc (square_y l p))) (raised_is 2 1 y_axis x_axis l p (square_y l p) (square_x l p) whole' (y_lt l p))

-- the masks, as numbers
thrice : (l : ℕ) → mask 1 l * 3 + 1 ≡ 4 ^ l
thrice zero = refl
thrice (suc l) = omega (arith, thrice l, pow-suc 4 l)

pub x_mask : (l : ℕ) → 4 ^ l / 3 ≡ mask 1 l
x_mask l = omega (arith, thrice l)

pub y_mask : (l : ℕ) → mask 2 l ≡ 2 * mask 1 l
y_mask zero = refl
y_mask (suc l) = omega (arith, y_mask l)

-- the square across a face is one cell on, entered by the opposite face; at the root's edge there is none
pub step_on : (l x y f q : ℕ) → f < 4 → square_beyond l x y f ≡ Some q → square_step l x y f ≡ Inside (q, square_opposite f)
step_on l x y f q h e = grind (arith, nat_tests)

pub step_out : (l x y f : ℕ) → f < 4 → square_beyond l x y f ≡ None → square_step l x y f ≡ Edge f (square_number x y f)
step_out l x y f h e = grind (arith, nat_tests)
