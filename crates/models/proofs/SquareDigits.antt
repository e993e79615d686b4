-- The coordinates of a square and its place, digit by digit from the first one on: n digits are left.
use Rattle.std.proofs.Common.{◌≡◌, ℕ, zero, suc, ◌+◌, ◌-◌, ◌*◌, ◌/◌, ◌%◌, ◌^◌, ◌<◌, ◌≤◌, ◌∙◌, arith}
use Rattle.models.specs.Square.{square_x, square_at}
use Rattle.models.proofs.Halves.{next_bit, next_two_bits, two_power_small, four_power_small}
use Rattle.models.proofs.SquareCells.{x_lt, at_lt}

-- no digit yet
pub x_start : (l p : ℕ) → 0 ≡ square_x (l - l) (p / 2 ^ (2 * l))
unfolding square_x
x_start l p = let none : l - l ≡ 0 = omega arith in rw none

pub at_start : (l x y : ℕ) → 0 ≡ square_at (l - l) (x / 2 ^ l) (y / 2 ^ l)
unfolding square_at
at_start l x y = let none : l - l ≡ 0 = omega arith in rw none

-- one digit more
pub x_more : (l n p x : ℕ) → 0 < n → n ≤ l → x ≡ square_x (l - n) (p / 2 ^ (2 * n)) →
    x * 2 + p / 2 ^ (2 * (n - 1)) % 2 ≡ square_x (l - (n - 1)) (p / 2 ^ (2 * (n - 1)))
unfolding square_x
x_more l zero p x pos h e = absurd (omega arith)
x_more l (suc n) p x pos h e =
    let one : suc n - 1 ≡ n = omega arith in
    let more : l - n ≡ suc (l - suc n) = omega arith in
    rw (one, more, e, next_two_bits p n)

pub at_more : (l n x y place : ℕ) → 0 < n → n ≤ l → place ≡ square_at (l - n) (x / 2 ^ n) (y / 2 ^ n) →
    place * 4 + (y / 2 ^ (n - 1) % 2 * 2 + x / 2 ^ (n - 1) % 2) ≡ square_at (l - (n - 1)) (x / 2 ^ (n - 1)) (y / 2 ^ (n - 1))
unfolding square_at
at_more l zero x y place pos h e = absurd (omega arith)
at_more l (suc n) x y place pos h e =
    let one : suc n - 1 ≡ n = omega arith in
    let more : l - n ≡ suc (l - suc n) = omega arith in
    rw (one, more, e, next_bit x n, next_bit y n)

-- all digits
pub x_done : (l n p x : ℕ) → n ≤ 0 → x ≡ square_x (l - n) (p / 2 ^ (2 * n)) → x ≡ square_x l p
x_done l zero p x h e =
    let all : l - 0 ≡ l = omega arith in
    let one : p / 2 ^ (2 * 0) ≡ p = omega arith in
    e ∙ rw (all, one)
x_done l (suc n) p x h e = absurd (omega arith)

-- they fit
pub x_small : (l p x : ℕ) → l ≤ 18 → x ≡ square_x l p → x < 262144
x_small l p x h e = omega (arith, e, x_lt l p, two_power_small l h)

pub at_small : (l x y place : ℕ) → l ≤ 18 → place ≡ square_at l x y → place < 68719476736
at_small l x y place h e = omega (arith, e, at_lt l x y, four_power_small l h)
