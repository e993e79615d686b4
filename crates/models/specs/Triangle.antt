-- The triangle: w 2, F 3, places in planar tetrahedral Morton order.
use Rattle.std.specs.Prelude.{◌≡◌, ℕ, zero, suc, ◌+◌, ◌-◌, ◌*◌, ◌/◌, ◌%◌, ◌^◌, ◌<◌, ◌≤◌, true, cond, ◌&&◌, ◌⊎◌, ◌↔◌, is_some, Some, None, Option, ◌==◌, nat_le, nat_lt}
use Rattle.scheme.specs.declared.crossing.Crossing.{Crossing}
use Rattle.scheme.specs.declared.crossing.Crossing.TheVariants.{Inside, Edge}
use Rattle.scheme.specs.Scheme.{Model, Belongs}
use Rattle.scheme.specs.Plan.{Plan, side}
use Rattle.models.specs.declared.anchor.Anchor.{Anchor}
use Rattle.models.specs.Corners.{corners_on}
use Rattle.grid.specs.Turning.{turn_over}

-- the parent's type, child number: the child's dx, dy and type
abbrev pub triangle_child : ℕ → ℕ → ℕ × ℕ × ℕ
triangle_child t i = cond (t == 0)
    (cond (i == 0) (0, 0, 0) (cond (i == 1) (1, 0, 0) (cond (i == 2) (1, 0, 1) (1, 1, 0))))
    (cond (i == 0) (0, 0, 1) (cond (i == 1) (0, 1, 0) (cond (i == 2) (0, 1, 1) (1, 1, 1))))

-- level, place: the type and the anchor; the root is (0, 0), type 0, and child i has anchor (2x + dx, 2y + dy)
unfoldable pub triangle_type : ℕ → ℕ → ℕ
triangle_type zero p = 0
triangle_type (suc l) p = (triangle_child (triangle_type l (p / 4)) (p % 4)).2

unfoldable pub triangle_x : ℕ → ℕ → ℕ
triangle_x zero p = 0
triangle_x (suc l) p = 2 * triangle_x l (p / 4) + (triangle_child (triangle_type l (p / 4)) (p % 4)).0

unfoldable pub triangle_y : ℕ → ℕ → ℕ
triangle_y zero p = 0
triangle_y (suc l) p = 2 * triangle_y l (p / 4) + (triangle_child (triangle_type l (p / 4)) (p % 4)).1

-- dx, dy, type: the parent's type and the child number, by which the table above has them
abbrev pub triangle_parent : ℕ → ℕ → ℕ → ℕ
triangle_parent dx dy t = cond (dx == dy) t dy

abbrev pub triangle_number : ℕ → ℕ → ℕ → ℕ
triangle_number dx dy t = cond (dx == dy) (3 * dx) (1 + t)

-- level, x, y, type: the place there
unfoldable pub triangle_at : ℕ → ℕ → ℕ → ℕ → ℕ
triangle_at zero x y t = 0
triangle_at (suc l) x y t =
    triangle_at l (x / 2) (y / 2) (triangle_parent (x % 2) (y % 2) t) * 4 + triangle_number (x % 2) (y % 2) t

-- level, x, y, type, face: across changes the type and turns face f into 2 − f
abbrev pub triangle_step : ℕ → ℕ → ℕ → ℕ → ℕ → Crossing
triangle_step l x y t f = cond (t == 0)
    (cond (f == 0) (cond (suc x == 2 ^ l) (Edge 0 y) (Inside (triangle_at l (suc x) y 1, 2)))
    (cond (f == 1) (cond (x == y) (Edge 1 x) (Inside (triangle_at l x y 1, 1)))
    (cond (y == 0) (Edge 2 x) (Inside (triangle_at l x (y - 1) 1, 0)))))
    (cond (f == 0) (Inside (triangle_at l x (suc y) 0, 2))
    (cond (f == 1) (Inside (triangle_at l x y 0, 1))
    (Inside (triangle_at l (x - 1) y 0, 0))))

abbrev pub triangle_across : ℕ → ℕ → ℕ → ℕ → Option Crossing
triangle_across D l p f = cond (nat_le l D && (nat_lt p (4 ^ l) && nat_lt f 3))
    (Some (triangle_step l (triangle_x l p) (triangle_y l p) (triangle_type l p) f)) None

-- level, root face, edge number: the place of the cell there, of type 0
abbrev pub triangle_rim : ℕ → ℕ → ℕ → ℕ
triangle_rim l g n =
    cond (g == 0) (triangle_at l (2 ^ l - 1) n 0)
    (cond (g == 1) (triangle_at l n n 0)
    (triangle_at l n 0 0))

abbrev pub triangle_at_edge : ℕ → ℕ → ℕ → ℕ → Option (ℕ × ℕ)
triangle_at_edge D l g n = cond (nat_le l D && (nat_lt g 3 && nat_lt n (2 ^ l))) (Some (triangle_rim l g n, g)) None

-- type, face, number: the children with two corners on the face, rising; they keep its number
abbrev pub triangle_on_face : ℕ → ℕ → ℕ → ℕ
triangle_on_face t f j = cond (t == 0)
    (cond (f == 0) (j * 2 + 1) (cond (f == 1) (j * 3) j))
    (cond (f == 0) (j + 2) (cond (f == 1) (j * 3) (j * 2)))

abbrev pub triangle_face_child : ℕ → ℕ → ℕ → ℕ → ℕ → Option (ℕ × ℕ)
triangle_face_child D l p f j = cond (nat_lt l D && (nat_lt p (4 ^ l) && (nat_lt f 3 && nat_lt j 2))) (Some (triangle_on_face (triangle_type l p) f j, f)) None

abbrev pub triangle : ℕ → Model
triangle D = record {
  w = 2;
  F = 3;
  D = D;
  across = triangle_across D;
  at_edge = triangle_at_edge D;
  face_child = triangle_face_child D;
  sort = λ g. cond (nat_lt g 3) (Some 0) None;
  turned = λ s l n. cond (s == 0 && (nat_le l D && nat_lt n (2 ^ l))) (Some (turn_over l n)) None;
}

-- level, x, y, type: the cells there are
abbrev pub TriangleCell : ℕ → ℕ → ℕ → ℕ → Type 0
TriangleCell l x y t = (x < 2 ^ l) × (((t ≡ 0) × (y ≤ x)) ⊎ ((t ≡ 1) × (y < x)))

-- the cell at a place, or none
abbrev pub triangle_cell : ℕ → ℕ → ℕ → Option Anchor
triangle_cell D l p = cond (nat_le l D && nat_lt p (4 ^ l)) (Some (record { x = triangle_x l p; y = triangle_y l p; ty = triangle_type l p })) None

-- the place from level, x, y and type, or none
abbrev pub triangle_place : ℕ → ℕ → ℕ → ℕ → ℕ → Option ℕ
triangle_place D l x y t = cond (nat_le l D && (nat_lt x (2 ^ l) && (nat_lt t 2 && cond (t == 0) (nat_le y x) (nat_lt y x)))) (Some (triangle_at l x y t)) None

-- x, y, type, number: the anchor, then (x + 1, y) or (x, y + 1), then (x + 1, y + 1), in cell sides
abbrev pub triangle_corner : ℕ → ℕ → ℕ → ℕ → ℕ × ℕ
triangle_corner x y t c = cond (c == 0) (x, y) (cond (c == 1) (cond (t == 0) (x + 1, y) (x, y + 1)) (x + 1, y + 1))

-- level, place, number: the corners in ticks
abbrev pub triangle_corners : ℕ → ℕ → ℕ → ℕ → ℕ × ℕ
triangle_corners D l p c = cond (nat_le l D && (nat_lt p (4 ^ l) && nat_lt c 3)) (
  (triangle_corner (triangle_x l p) (triangle_y l p) (triangle_type l p) c).0 * side l,
  (triangle_corner (triangle_x l p) (triangle_y l p) (triangle_type l p) c).1 * side l,
)
    (0, 0)

-- face, number 0 or 1: face f has the two corners other than f
abbrev pub triangle_face_corner : ℕ → ℕ → ℕ
triangle_face_corner f j = cond (f == 0) (j + 1) (cond (f == 1) (j * 2) j)

abbrev pub triangle_plan : ℕ → Plan
triangle_plan D = record { w = 2; D = D; count = 3; corner = triangle_corners D }

-- the planar tetrahedral Morton order: the root is (0, 0) of type 0, and child i of a cell lies by the table of its type
abbrev pub TriangleOrder : Type 0
TriangleOrder =
    (triangle_cell 18 0 0 ≡ Some (record { x = 0; y = 0; ty = 0 })) ×
    ((l p i : ℕ) (c : Anchor) → l < 18 → i < 4 → triangle_cell 18 l p ≡ Some c →
    triangle_cell 18 (suc l) (p * 4 + i) ≡
    Some (record { x = 2 * c.x + (triangle_child c.ty i).0; y = 2 * c.y + (triangle_child c.ty i).1; ty = (triangle_child c.ty i).2 }))

-- place to cell and cell to place undo each other
abbrev pub TriangleUndoes : Type 0
TriangleUndoes = (l p : ℕ) (c : Anchor) → (triangle_cell 18 l p ≡ Some c) ↔ (triangle_place 18 l c.x c.y c.ty ≡ Some p)

-- exactly the cells that there are have a place, and exactly the places that there are have a cell
abbrev pub TriangleThere : Type 0
TriangleThere =
    ((l x y t : ℕ) → (is_some (triangle_place 18 l x y t) ≡ true) ↔ ((l ≤ 18) × TriangleCell l x y t)) ×
    ((l p : ℕ) → (is_some (triangle_cell 18 l p) ≡ true) ↔ ((l ≤ 18) × (p < 4 ^ l)))

-- across leads to the cell with the same corners on its face
abbrev pub TriangleShares : Type 0
TriangleShares = (l p f q g j : ℕ) → triangle_across 18 l p f ≡ Some (Inside (q, g)) → j < 2 →
    triangle_corners 18 l p (triangle_face_corner f j) ≡ triangle_corners 18 l q (triangle_face_corner g j)

-- the face children are the children with two corners on the face, and keep its number
abbrev pub TriangleFaceChildren : Type 0
TriangleFaceChildren = (l p f i a : ℕ) → l < 18 → p < 4 ^ l → f < 3 → i < 4 →
    Belongs (triangle 18) l p f i a ↔
    ((a ≡ f) × (corners_on (triangle_corners 18 l p (triangle_face_corner f 0)) (triangle_corners 18 l p (triangle_face_corner f 1)) (triangle_corners 18 (suc l) (p * 4 + i)) 3 ≡ 2))
