-- The square: w 2, F 4, places in Morton order.
use Rattle.std.specs.Prelude.{◌≡◌, ℕ, zero, suc, ◌+◌, ◌-◌, ◌*◌, ◌/◌, ◌%◌, ◌^◌, ◌<◌, ◌≤◌, true, cond, ◌&&◌, ◌↔◌, is_some, Some, None, Option, ◌==◌, nat_le, nat_lt}
use Rattle.scheme.specs.declared.crossing.Crossing.{Crossing}
use Rattle.scheme.specs.declared.crossing.Crossing.TheVariants.{Inside, Edge}
use Rattle.scheme.specs.Scheme.{Model, Belongs}
use Rattle.scheme.specs.Plan.{Plan, side}
use Rattle.models.specs.declared.anchor.Anchor.{Anchor}
use Rattle.models.specs.Corners.{corners_on}
use Rattle.grid.specs.Turning.{turn_over}

-- level, place: bit 2i of the place is bit i of x, bit 2i + 1 is bit i of y
unfoldable pub square_x : ℕ → ℕ → ℕ
square_x zero p = 0
square_x (suc l) p = square_x l (p / 4) * 2 + p % 2

unfoldable pub square_y : ℕ → ℕ → ℕ
square_y zero p = 0
square_y (suc l) p = square_y l (p / 4) * 2 + p / 2 % 2

-- level, x, y: the place there
unfoldable pub square_at : ℕ → ℕ → ℕ → ℕ
square_at zero x y = 0
square_at (suc l) x y = square_at l (x / 2) (y / 2) * 4 + (y % 2 * 2 + x % 2)

-- level, x, y, face: faces 0 and 1 meet, and 2 and 3; the edge number is y on faces 0 and 1, x on 2 and 3
abbrev pub square_step : ℕ → ℕ → ℕ → ℕ → Crossing
square_step l x y f =
    cond (f == 0) (cond (x == 0) (Edge 0 y) (Inside (square_at l (x - 1) y, 1)))
    (cond (f == 1) (cond (suc x == 2 ^ l) (Edge 1 y) (Inside (square_at l (suc x) y, 0)))
    (cond (f == 2) (cond (y == 0) (Edge 2 x) (Inside (square_at l x (y - 1), 3)))
    (cond (suc y == 2 ^ l) (Edge 3 x) (Inside (square_at l x (suc y), 2)))))

abbrev pub square_across : ℕ → ℕ → ℕ → ℕ → Option Crossing
square_across D l p f = cond (nat_le l D && (nat_lt p (4 ^ l) && nat_lt f 4)) (Some (square_step l (square_x l p) (square_y l p) f)) None

-- level, root face, edge number: the place of the cell there
abbrev pub square_rim : ℕ → ℕ → ℕ → ℕ
square_rim l g n =
    cond (g == 0) (square_at l 0 n)
    (cond (g == 1) (square_at l (2 ^ l - 1) n)
    (cond (g == 2) (square_at l n 0)
    (square_at l n (2 ^ l - 1))))

abbrev pub square_at_edge : ℕ → ℕ → ℕ → ℕ → Option (ℕ × ℕ)
square_at_edge D l g n = cond (nat_le l D && (nat_lt g 4 && nat_lt n (2 ^ l))) (Some (square_rim l g n, g)) None

-- face, number: the children with two corners on the face, rising; they keep its number
abbrev pub square_on_face : ℕ → ℕ → ℕ
square_on_face f j = cond (f == 0) (j * 2) (cond (f == 1) (j * 2 + 1) (cond (f == 2) j (j + 2)))

abbrev pub square_face_child : ℕ → ℕ → ℕ → ℕ → ℕ → Option (ℕ × ℕ)
square_face_child D l p f j = cond (nat_lt l D && (nat_lt p (4 ^ l) && (nat_lt f 4 && nat_lt j 2))) (Some (square_on_face f j, f)) None

abbrev pub square : ℕ → Model
square D = record {
  w = 2;
  F = 4;
  D = D;
  across = square_across D;
  at_edge = square_at_edge D;
  face_child = square_face_child D;
  sort = λ g. cond (nat_lt g 4) (Some 0) None;
  turned = λ s l n. cond (s == 0 && (nat_le l D && nat_lt n (2 ^ l))) (Some (turn_over l n)) None;
}

-- level, x, y, type: the cells there are
abbrev pub SquareCell : ℕ → ℕ → ℕ → ℕ → Type 0
SquareCell l x y t = (x < 2 ^ l) × (y < 2 ^ l) × (t ≡ 0)

-- the cell at a place, or none
abbrev pub square_cell : ℕ → ℕ → ℕ → Option Anchor
square_cell D l p = cond (nat_le l D && nat_lt p (4 ^ l)) (Some (record { x = square_x l p; y = square_y l p; ty = 0 })) None

-- the place from level, x, y and type, or none
abbrev pub square_place : ℕ → ℕ → ℕ → ℕ → ℕ → Option ℕ
square_place D l x y t = cond (nat_le l D && (nat_lt x (2 ^ l) && (nat_lt y (2 ^ l) && t == 0))) (Some (square_at l x y)) None

-- x, y, number: corners (x, y), (x + 1, y), (x, y + 1), (x + 1, y + 1), in cell sides
abbrev pub square_corner : ℕ → ℕ → ℕ → ℕ × ℕ
square_corner x y c = (x + c % 2, y + c / 2)

-- level, place, number: the corners in ticks
abbrev pub square_corners : ℕ → ℕ → ℕ → ℕ → ℕ × ℕ
square_corners D l p c = cond (nat_le l D && (nat_lt p (4 ^ l) && nat_lt c 4))
    ((square_corner (square_x l p) (square_y l p) c).0 * side l, (square_corner (square_x l p) (square_y l p) c).1 * side l)
    (0, 0)

-- face, number 0 or 1: faces 0 to 3 have corners 0, 2; 1, 3; 0, 1; 2, 3
abbrev pub square_face_corner : ℕ → ℕ → ℕ
square_face_corner f j = cond (f == 0) (j * 2) (cond (f == 1) (j * 2 + 1) (cond (f == 2) j (j + 2)))

abbrev pub square_plan : ℕ → Plan
square_plan D = record { w = 2; D = D; count = 4; corner = square_corners D }

-- the Morton order: bit 2i of the place is bit i of x, bit 2i + 1 is bit i of y
abbrev pub SquareBits : Type 0
SquareBits = (l i p : ℕ) → i < l → (square_x l p / 2 ^ i % 2 ≡ p / 2 ^ (2 * i) % 2) × (square_y l p / 2 ^ i % 2 ≡ p / 2 ^ suc (2 * i) % 2)

-- place to cell and cell to place undo each other
abbrev pub SquareUndoes : Type 0
SquareUndoes = (l p : ℕ) (c : Anchor) → (square_cell 18 l p ≡ Some c) ↔ (square_place 18 l c.x c.y c.ty ≡ Some p)

-- exactly the cells that there are have a place, and exactly the places that there are have a cell
abbrev pub SquareThere : Type 0
SquareThere =
    ((l x y t : ℕ) → (is_some (square_place 18 l x y t) ≡ true) ↔ ((l ≤ 18) × SquareCell l x y t)) ×
    ((l p : ℕ) → (is_some (square_cell 18 l p) ≡ true) ↔ ((l ≤ 18) × (p < 4 ^ l)))

-- across leads to the cell with the same corners on its face
abbrev pub SquareShares : Type 0
SquareShares = (l p f q g j : ℕ) → square_across 18 l p f ≡ Some (Inside (q, g)) → j < 2 →
    square_corners 18 l p (square_face_corner f j) ≡ square_corners 18 l q (square_face_corner g j)

-- the face children are the children with two corners on the face, and keep its number
abbrev pub SquareFaceChildren : Type 0
SquareFaceChildren = (l p f i a : ℕ) → l < 18 → p < 4 ^ l → f < 4 → i < 4 →
    Belongs (square 18) l p f i a ↔
    ((a ≡ f) × (corners_on (square_corners 18 l p (square_face_corner f 0)) (square_corners 18 l p (square_face_corner f 1)) (square_corners 18 (suc l) (p * 4 + i)) 4 ≡ 2))
