-- Places of the triangle and their anchors and types answer each other.
use Rattle.std.proofs.Common.{◌≡◌, ℕ, zero, suc, ◌+◌, ◌*◌, ◌/◌, ◌%◌, ◌^◌, ◌<◌, ◌≤◌, true, ◌↔◌, is_some, Some, sym, refl, ap, ◌∙◌, inl, pow-suc, arith}
use Rattle.std.proofs.lemmas.Bool.Decides.{nat_tests}
use Rattle.models.specs.Triangle.{triangle_child, triangle_type, triangle_x, triangle_y, triangle_parent, triangle_number, triangle_at, triangle_cell, triangle_place, TriangleCell, TriangleOrder, TriangleUndoes}
use Rattle.models.specs.declared.anchor.Anchor.{Anchor}
use Rattle.models.proofs.Weaving.{last_lt}
use Rattle.models.proofs.Anchored.{anchored_iff, both_ways}
use Rattle.models.proofs.Halves.{quarter_lt}

child_cell : (l x y t i : ℕ) → TriangleCell l x y t → i < 4 →
    TriangleCell (suc l) (2 * x + (triangle_child t i).0) (2 * y + (triangle_child t i).1) (triangle_child t i).2
child_cell l x y t i c hi = grind (arith, nat_tests, pow-suc 2 l)

child_digits : (t i : ℕ) → t < 2 → i < 4 → ((triangle_child t i).0 < 2) × ((triangle_child t i).1 < 2) × ((triangle_child t i).2 < 2) ×
    (triangle_parent (triangle_child t i).0 (triangle_child t i).1 (triangle_child t i).2 ≡ t) ×
    (triangle_number (triangle_child t i).0 (triangle_child t i).1 (triangle_child t i).2 ≡ i)
child_digits t i ht hi = grind (arith, nat_tests)

digits_child : (dx dy t : ℕ) → dx < 2 → dy < 2 → t < 2 →
    (triangle_number dx dy t < 4) × (triangle_parent dx dy t < 2) ×
    ((triangle_child (triangle_parent dx dy t) (triangle_number dx dy t)).0 ≡ dx) ×
    ((triangle_child (triangle_parent dx dy t) (triangle_number dx dy t)).1 ≡ dy) ×
    ((triangle_child (triangle_parent dx dy t) (triangle_number dx dy t)).2 ≡ t)
digits_child dx dy t hx hy ht = grind (arith, nat_tests)

parent_cell : (l x y t : ℕ) → TriangleCell (suc l) x y t → TriangleCell l (x / 2) (y / 2) (triangle_parent (x % 2) (y % 2) t)
parent_cell l x y t c = grind (arith, nat_tests, pow-suc 2 l)

-- every place is a cell
pub is_cell : (l p : ℕ) → TriangleCell l (triangle_x l p) (triangle_y l p) (triangle_type l p)
unfolding triangle_x triangle_y triangle_type
is_cell zero p = (omega arith, inl (refl, omega arith))
is_cell (suc l) p = child_cell l (triangle_x l (p / 4)) (triangle_y l (p / 4)) (triangle_type l (p / 4)) (p % 4) (is_cell l (p / 4)) (omega arith)

pub type_lt : (l p : ℕ) → triangle_type l p < 2
type_lt l p = grind (arith, is_cell l p)

pub at_lt : (l x y t : ℕ) → t < 2 → triangle_at l x y t < 4 ^ l
unfolding triangle_at
at_lt zero x y t ht = omega arith
at_lt (suc l) x y t ht =
    let d = digits_child (x % 2) (y % 2) t (omega arith) (omega arith) ht in
    omega (arith, pow-suc 4 l, at_lt l (x / 2) (y / 2) (triangle_parent (x % 2) (y % 2) t) d.1, d.0)

-- the anchor and the type of a child
pub x_child : (l p i : ℕ) → i < 4 → triangle_x (suc l) (p * 4 + i) ≡ 2 * triangle_x l p + (triangle_child (triangle_type l p) i).0
unfolding triangle_x
x_child l p i h =
    let up : (p * 4 + i) / 4 ≡ p = omega arith in
    let low : (p * 4 + i) % 4 ≡ i = omega arith in
    rw (up, low)

pub y_child : (l p i : ℕ) → i < 4 → triangle_y (suc l) (p * 4 + i) ≡ 2 * triangle_y l p + (triangle_child (triangle_type l p) i).1
unfolding triangle_y
y_child l p i h =
    let up : (p * 4 + i) / 4 ≡ p = omega arith in
    let low : (p * 4 + i) % 4 ≡ i = omega arith in
    rw (up, low)

pub type_child : (l p i : ℕ) → i < 4 → triangle_type (suc l) (p * 4 + i) ≡ (triangle_child (triangle_type l p) i).2
unfolding triangle_type
type_child l p i h =
    let up : (p * 4 + i) / 4 ≡ p = omega arith in
    let low : (p * 4 + i) % 4 ≡ i = omega arith in
    ap (λ (q : ℕ). (triangle_child (triangle_type l q) ((p * 4 + i) % 4)).2) up ∙ ap (λ (d : ℕ). (triangle_child (triangle_type l p) d).2) low

-- the place of a child, from its anchor and type
at_digits : (l x y t i dx dy c : ℕ) → dx < 2 → dy < 2 → triangle_parent dx dy c ≡ t → triangle_number dx dy c ≡ i →
    triangle_at (suc l) (2 * x + dx) (2 * y + dy) c ≡ triangle_at l x y t * 4 + i
unfolding triangle_at
at_digits l x y t i dx dy c hx hy parent number =
    let x_up : (2 * x + dx) / 2 ≡ x = omega arith in
    let y_up : (2 * y + dy) / 2 ≡ y = omega arith in
    let x_low : (2 * x + dx) % 2 ≡ dx = omega arith in
    let y_low : (2 * y + dy) % 2 ≡ dy = omega arith in
    rw (x_up, y_up, x_low, y_low, parent, number)

at_child : (l x y t i : ℕ) → t < 2 → i < 4 →
    triangle_at (suc l) (2 * x + (triangle_child t i).0) (2 * y + (triangle_child t i).1) (triangle_child t i).2 ≡ triangle_at l x y t * 4 + i
at_child l x y t i ht hi =
    let (hx, hy, _, parent, number) = child_digits t i ht hi in
    at_digits l x y t i (triangle_child t i).0 (triangle_child t i).1 (triangle_child t i).2 hx hy parent number

at_zero : (x y t p : ℕ) → p < 4 ^ zero → triangle_at zero x y t ≡ p
unfolding triangle_at
at_zero x y t p h = omega arith

-- place to cell to place
pub place_back : (l p : ℕ) → p < 4 ^ l → triangle_at l (triangle_x l p) (triangle_y l p) (triangle_type l p) ≡ p
unfolding triangle_x triangle_y triangle_type
place_back zero p h = at_zero 0 0 0 p h
place_back (suc l) p h =
    let up = place_back l (p / 4) (quarter_lt l p h) in
    let child = at_child l (triangle_x l (p / 4)) (triangle_y l (p / 4)) (triangle_type l (p / 4)) (p % 4) (type_lt l (p / 4)) (omega arith) in
    let whole : p / 4 * 4 + p % 4 ≡ p = omega arith in
    child ∙ ap (λ q. q * 4 + p % 4) up ∙ whole

root_cell : (p : ℕ) → (triangle_x zero p ≡ 0) × (triangle_y zero p ≡ 0) × (triangle_type zero p ≡ 0)
unfolding triangle_x triangle_y triangle_type
root_cell p = (refl, refl, refl)

-- cell to place to cell
pub cell_back : (l x y t : ℕ) → TriangleCell l x y t →
    (triangle_x l (triangle_at l x y t) ≡ x) × (triangle_y l (triangle_at l x y t) ≡ y) × (triangle_type l (triangle_at l x y t) ≡ t)
unfolding triangle_at
cell_back zero x y t c = let r = root_cell 0 in (omega arith, omega arith, omega arith)
cell_back (suc l) x y t c =
    let ht : t < 2 = omega arith in
    let (small, _, ex, ey, et) = digits_child (x % 2) (y % 2) t (omega arith) (omega arith) ht in
    let (bx, by, bt) = cell_back l (x / 2) (y / 2) (triangle_parent (x % 2) (y % 2) t) (parent_cell l x y t c) in
    let q = triangle_at l (x / 2) (y / 2) (triangle_parent (x % 2) (y % 2) t) in
    let i = triangle_number (x % 2) (y % 2) t in
    (x_child l q i small ∙ rw (bx, bt, ex) (omega arith), y_child l q i small ∙ rw (by, bt, ey) (omega arith), type_child l q i small ∙ rw (bt, et))

-- exactly the cells there are have a place
pub triangle_place_some : (D l x y t : ℕ) → (is_some (triangle_place D l x y t) ≡ true) ↔ ((l ≤ D) × TriangleCell l x y t)
triangle_place_some D l x y t = ((λ e. grind (arith, nat_tests)), (λ c. grind (arith, nat_tests)))

-- the place of a cell has its anchor and type, and each place is of the cell that has its own
pub triangle_place_iff : (D l x y t p : ℕ) →
    (triangle_place D l x y t ≡ Some p) ↔
    ((l ≤ D) × (p < 4 ^ l) × (x ≡ triangle_x l p) × (y ≡ triangle_y l p) × (t ≡ triangle_type l p))
triangle_place_iff D l x y t p = (
  (λ e. grind (arith, nat_tests, at_lt l x y t, cell_back l x y t)),
  (λ c. grind (arith, nat_tests, is_cell l p, place_back l p)),
)

pub triangle_undoes : TriangleUndoes
triangle_undoes l p c = both_ways
    (anchored_iff 18 l p (record { x = triangle_x l p; y = triangle_y l p; ty = triangle_type l p }) c)
    (triangle_place_iff 18 l c.x c.y c.ty p)

pub triangle_order : TriangleOrder
triangle_order = (root, child)
  where
    root : triangle_cell 18 0 0 ≡ Some (record { x = 0; y = 0; ty = 0 })
    root =
        let (ex, ey, et) = root_cell 0 in
        (anchored_iff 18 0 0 (record { x = triangle_x 0 0; y = triangle_y 0 0; ty = triangle_type 0 0 }) (record { x = 0; y = 0; ty = 0 })).1
        (omega arith, omega arith, sym ex, sym ey, sym et)

    child : (l p i : ℕ) (c : Anchor) → l < 18 → i < 4 → triangle_cell 18 l p ≡ Some c →
        triangle_cell 18 (suc l) (p * 4 + i) ≡
        Some (record { x = 2 * c.x + (triangle_child c.ty i).0; y = 2 * c.y + (triangle_child c.ty i).1; ty = (triangle_child c.ty i).2 })
    child l p i c hl hi e =
        let (_, hp, ex, ey, et) = (anchored_iff 18 l p (record { x = triangle_x l p; y = triangle_y l p; ty = triangle_type l p }) c).0 e in
        let q = p * 4 + i in
        (anchored_iff 18 (suc l) q (record { x = triangle_x (suc l) q; y = triangle_y (suc l) q; ty = triangle_type (suc l) q })
        (record { x = 2 * c.x + (triangle_child c.ty i).0; y = 2 * c.y + (triangle_child c.ty i).1; ty = (triangle_child c.ty i).2 })).1
        (hl, last_lt 4 l p i hp hi, rw (ex, et) (sym (x_child l p i hi)), rw (ey, et) (sym (y_child l p i hi)), rw et (sym (type_child l p i hi)))
