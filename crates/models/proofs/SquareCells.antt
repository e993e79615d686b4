-- Places of the square and their coordinates answer each other.
use Rattle.std.proofs.Common.{◌≡◌, ℕ, zero, suc, ◌+◌, ◌*◌, ◌/◌, ◌%◌, ◌^◌, ◌<◌, ◌≤◌, true, ◌↔◌, is_some, Some, refl, pow-suc, arith}
use Rattle.std.proofs.lemmas.Bool.Decides.{nat_tests}
use Rattle.models.specs.Square.{square_x, square_y, square_at, square_place, SquareCell, SquareBits, SquareUndoes}
use Rattle.models.proofs.Anchored.{anchored_iff, both_ways}
use Rattle.models.proofs.Halves.{half_lt, quarter_lt, drop_bit, drop_two_bits}

pub x_lt : (l p : ℕ) → square_x l p < 2 ^ l
unfolding square_x
x_lt zero p = omega arith
x_lt (suc l) p = omega (arith, pow-suc 2 l, x_lt l (p / 4))

pub y_lt : (l p : ℕ) → square_y l p < 2 ^ l
unfolding square_y
y_lt zero p = omega arith
y_lt (suc l) p = omega (arith, pow-suc 2 l, y_lt l (p / 4))

pub at_lt : (l x y : ℕ) → square_at l x y < 4 ^ l
unfolding square_at
at_lt zero x y = omega arith
at_lt (suc l) x y = omega (arith, pow-suc 4 l, at_lt l (x / 2) (y / 2))

-- the coordinates of a child
pub x_child : (l p i : ℕ) → i < 4 → square_x (suc l) (p * 4 + i) ≡ square_x l p * 2 + i % 2
unfolding square_x
x_child l p i h =
    let up : (p * 4 + i) / 4 ≡ p = omega arith in
    rw up (omega arith)

pub y_child : (l p i : ℕ) → i < 4 → square_y (suc l) (p * 4 + i) ≡ square_y l p * 2 + i / 2
unfolding square_y
y_child l p i h =
    let up : (p * 4 + i) / 4 ≡ p = omega arith in
    rw up (omega arith)

-- place to cell to place
pub place_back : (l p : ℕ) → p < 4 ^ l → square_at l (square_x l p) (square_y l p) ≡ p
unfolding square_x square_y square_at
place_back zero p h = omega arith
place_back (suc l) p h =
    let x_up : (square_x l (p / 4) * 2 + p % 2) / 2 ≡ square_x l (p / 4) = omega arith in
    let y_up : (square_y l (p / 4) * 2 + p / 2 % 2) / 2 ≡ square_y l (p / 4) = omega arith in
    rw (x_up, y_up, place_back l (p / 4) (quarter_lt l p h)) (omega arith)

-- cell to place to cell
pub x_back : (l x y : ℕ) → x < 2 ^ l → square_x l (square_at l x y) ≡ x
unfolding square_x square_at
x_back zero x y h = omega arith
x_back (suc l) x y h =
    let up : (square_at l (x / 2) (y / 2) * 4 + (y % 2 * 2 + x % 2)) / 4 ≡ square_at l (x / 2) (y / 2) = omega arith in
    rw (up, x_back l (x / 2) (y / 2) (half_lt l x h)) (omega arith)

pub y_back : (l x y : ℕ) → y < 2 ^ l → square_y l (square_at l x y) ≡ y
unfolding square_y square_at
y_back zero x y h = omega arith
y_back (suc l) x y h =
    let up : (square_at l (x / 2) (y / 2) * 4 + (y % 2 * 2 + x % 2)) / 4 ≡ square_at l (x / 2) (y / 2) = omega arith in
    rw (up, y_back l (x / 2) (y / 2) (half_lt l y h)) (omega arith)

-- the bits of y are those of x once the last bit is dropped
pub y_as_x : (l p : ℕ) → square_y l p ≡ square_x l (p / 2)
unfolding square_x square_y
y_as_x zero p = refl
y_as_x (suc l) p = let low : p / 4 / 2 ≡ p / 2 / 4 = omega arith in rw (y_as_x l (p / 4), low)

-- the rule of the bits: bit 2i of the place is bit i of x, bit 2i + 1 is bit i of y
pub x_bit : (l i p : ℕ) → i < l → square_x l p / 2 ^ i % 2 ≡ p / 2 ^ (2 * i) % 2
unfolding square_x
x_bit zero i p h = absurd (omega arith)
x_bit (suc l) zero p h = omega arith
x_bit (suc l) (suc i) p h =
    let up : (square_x l (p / 4) * 2 + p % 2) / 2 ≡ square_x l (p / 4) = omega arith in
    rw (drop_bit, up, drop_two_bits p i, x_bit l i (p / 4) (omega arith))

pub y_bit : (l i p : ℕ) → i < l → square_y l p / 2 ^ i % 2 ≡ p / 2 ^ suc (2 * i) % 2
unfolding square_y
y_bit zero i p h = absurd (omega arith)
y_bit (suc l) zero p h = omega arith
y_bit (suc l) (suc i) p h =
    let up : (square_y l (p / 4) * 2 + p / 2 % 2) / 2 ≡ square_y l (p / 4) = omega arith in
    let low : p / 2 / 4 ≡ p / 4 / 2 = omega arith in
    rw (drop_bit (square_y l (p / 4) * 2 + p / 2 % 2) i, up, y_bit l i (p / 4) (omega arith), drop_bit p (2 * suc i), drop_two_bits (p / 2) i, low, drop_bit (p / 4) (2 * i))

-- every place is a cell
pub is_cell : (l p : ℕ) → SquareCell l (square_x l p) (square_y l p) 0
is_cell l p = (x_lt l p, y_lt l p, refl)

-- exactly the cells there are have a place
pub square_place_some : (D l x y t : ℕ) → (is_some (square_place D l x y t) ≡ true) ↔ ((l ≤ D) × SquareCell l x y t)
square_place_some D l x y t = ((λ e. grind (arith, nat_tests)), (λ c. grind (arith, nat_tests)))

-- the place of a cell has its coordinates, and each place is of the cell that has its own
pub square_place_iff : (D l x y t p : ℕ) →
    (square_place D l x y t ≡ Some p) ↔ ((l ≤ D) × (p < 4 ^ l) × (x ≡ square_x l p) × (y ≡ square_y l p) × (t ≡ 0))
square_place_iff D l x y t p = (
  (λ e. grind (arith, nat_tests, at_lt l x y, x_back l x y, y_back l x y)),
  (λ c. grind (arith, nat_tests, x_lt l p, y_lt l p, place_back l p)),
)

pub square_bits : SquareBits
square_bits l i p h = (x_bit l i p h, y_bit l i p h)

pub square_undoes : SquareUndoes
square_undoes l p c = both_ways
    (anchored_iff 18 l p (record { x = square_x l p; y = square_y l p; ty = 0 }) c)
    (square_place_iff 18 l c.x c.y c.ty p)
