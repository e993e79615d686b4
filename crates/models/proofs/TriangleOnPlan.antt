-- The triangle on the plan.
use Rattle.std.proofs.Common.{◌≡◌, ℕ, zero, suc, ◌+◌, ◌-◌, ◌*◌, ◌^◌, ◌<◌, ◌≤◌, ◌||◌, eqb, ◌⊎◌, ◌↔◌, Some, sym, refl, ap, ◌∙◌, inl, inr, arith, pow_pos}
use Rattle.std.proofs.lemmas.Bool.Decides.{nat_tests}
use Rattle.scheme.specs.declared.crossing.Crossing.TheVariants.{Inside}
use Rattle.scheme.specs.Plan.{side, InBox, Nested, Agrees, Flat, OnPlan}
use Rattle.models.specs.Corners.{corners_on}
use Rattle.scheme.specs.Scheme.{Belongs}
use Rattle.models.specs.Triangle.{triangle, triangle_on_face, triangle_child, triangle_type, triangle_x, triangle_y, triangle_corner, triangle_corners, triangle_face_corner, triangle_across, triangle_plan, TriangleShares, TriangleFaceChildren}
use Rattle.models.proofs.Weaving.{last_lt}
use Rattle.models.proofs.OnSegment.{corners_on_moved, below_four}
use Rattle.shapes.specs.OnPlan.{child_box, side_half, two_sides, from_anchor}
use Rattle.models.proofs.TriangleLaws.{Next, Up, inside_next, belongs_number, number_belongs}
use Rattle.models.proofs.TriangleCells.{x_child, y_child, type_child, type_lt}

corners_in : (D l p c : ℕ) → l ≤ D → p < 4 ^ l → c < 3 →
    triangle_corners D l p c ≡ (
      (triangle_corner (triangle_x l p) (triangle_y l p) (triangle_type l p) c).0 * side l,
      (triangle_corner (triangle_x l p) (triangle_y l p) (triangle_type l p) c).1 * side l,
    )
corners_in D l p c hl hp hc = grind (arith, nat_tests)

face_corner_lt : (f j : ℕ) → j < 2 → triangle_face_corner f j < 3
face_corner_lt f j hj = grind (arith, nat_tests)

-- corners in half sides from the parent's anchor: the parent's, of type t, and its child i's
own_corner : ℕ → ℕ → ℕ × ℕ
own_corner t c = ((triangle_corner 0 0 t c).0 * 2, (triangle_corner 0 0 t c).1 * 2)

child_corner : ℕ → ℕ → ℕ → ℕ × ℕ
child_corner t i c = triangle_corner (triangle_child t i).0 (triangle_child t i).1 (triangle_child t i).2 c

corner_from : (x y t c : ℕ) → ((triangle_corner x y t c).0 ≡ x + (triangle_corner 0 0 t c).0) × ((triangle_corner x y t c).1 ≡ y + (triangle_corner 0 0 t c).1)
corner_from x y t c = grind (arith, nat_tests)

corner_moved : (x y dx dy t c : ℕ) →
    ((triangle_corner (x + dx) (y + dy) t c).0 ≡ x + (triangle_corner dx dy t c).0) × ((triangle_corner (x + dx) (y + dy) t c).1 ≡ y + (triangle_corner dx dy t c).1)
corner_moved x y dx dy t c = grind (arith, nat_tests)

child_corner_near : (t i c : ℕ) → ((child_corner t i c).0 ≤ 2) × ((child_corner t i c).1 ≤ 2)
unfolding child_corner
child_corner_near t i c = grind (arith, nat_tests)

own_from_anchor : (D l p c : ℕ) → D ≤ 18 → l < D → p < 4 ^ l → c < 3 →
    triangle_corners D l p c ≡ from_anchor (triangle_x l p) (triangle_y l p) (side (suc l)) (own_corner (triangle_type l p) c)
unfolding own_corner
own_from_anchor D l p c deep hl hp hc =
    let half : side l ≡ side (suc l) * 2 = side_half l (omega arith) in
    let t = triangle_type l p in
    let (x, y) = corner_from (triangle_x l p) (triangle_y l p) t c in
    corners_in D l p c (omega arith) hp hc ∙
    (rw (x, y, half, two_sides (triangle_x l p) (triangle_corner 0 0 t c).0 (side (suc l)), two_sides (triangle_y l p) (triangle_corner 0 0 t c).1 (side (suc l))))

child_from_anchor : (D l p i c : ℕ) → l < D → p < 4 ^ l → i < 4 → c < 3 →
    triangle_corners D (suc l) (p * 4 + i) c ≡ from_anchor (triangle_x l p) (triangle_y l p) (side (suc l)) (child_corner (triangle_type l p) i c)
unfolding child_corner
child_from_anchor D l p i c hl hp hi hc =
    let t = triangle_type l p in
    let (x, y) = corner_moved (2 * triangle_x l p) (2 * triangle_y l p) (triangle_child t i).0 (triangle_child t i).1 (triangle_child t i).2 c in
    corners_in D (suc l) (p * 4 + i) c hl (last_lt 4 l p i hp hi) hc ∙
    (rw (x_child l p i hi, y_child l p i hi, type_child l p i hi, x, y))

up_corners : (l p f q g j : ℕ) → j < 2 → Up l p f q g →
    triangle_corner (triangle_x l p) (triangle_y l p) (triangle_type l p) (triangle_face_corner f j) ≡
    triangle_corner (triangle_x l q) (triangle_y l q) (triangle_type l q) (triangle_face_corner g j)
unfolding Up
up_corners l p f q g j hj (tp, tq, inl (a, b, c, d)) = grind (arith, nat_tests)
up_corners l p f q g j hj (tp, tq, inr (inl (a, b, c, d))) = grind (arith, nat_tests)
up_corners l p f q g j hj (tp, tq, inr (inr (a, b, c, d))) = grind (arith, nat_tests)

next_corners : (l p f q g j : ℕ) → j < 2 → Next l p f q g →
    triangle_corner (triangle_x l p) (triangle_y l p) (triangle_type l p) (triangle_face_corner f j) ≡
    triangle_corner (triangle_x l q) (triangle_y l q) (triangle_type l q) (triangle_face_corner g j)
unfolding Next
next_corners l p f q g j hj (inl u) = up_corners l p f q g j hj u
next_corners l p f q g j hj (inr u) = sym (up_corners l q g p f j hj u)

-- across leads to the cell with the same corners on its face
pub triangle_same_corners : (D l p f q g j : ℕ) → D ≤ 18 → triangle_across D l p f ≡ Some (Inside (q, g)) → j < 2 →
    triangle_corners D l p (triangle_face_corner f j) ≡ triangle_corners D l q (triangle_face_corner g j)
triangle_same_corners D l p f q g j deep e hj =
    let (hl, hp, hq, _, n) = inside_next D deep l p f q g e in
    let c = triangle_face_corner f j in
    let c' = triangle_face_corner g j in
    let hc : c < 3 = face_corner_lt f j hj in
    let hc' : c' < 3 = face_corner_lt g j hj in
    corners_in D l p c hl hp hc ∙ ap (λ (v : ℕ × ℕ). (v.0 * side l, v.1 * side l)) (next_corners l p f q g j hj n) ∙ sym (corners_in D l q c' hl hq hc')

-- a child's corners lie inside its parent's bounding rectangle
pub triangle_child_box : (D l p i c : ℕ) → D ≤ 18 → l < D → p < 4 ^ l → i < 4 → c < 3 →
    InBox (triangle_corners D l p) 2 (triangle_corners D (suc l) (p * 4 + i) c)
unfolding own_corner
triangle_child_box D l p i c deep hl hp hi hc =
    let t = triangle_type l p in
    let (near_x, near_y) = child_corner_near t i c in
    child_box (triangle_corners D l p) 2 2 (triangle_corners D (suc l) (p * 4 + i) c) (triangle_x l p) (triangle_y l p) (side (suc l)) (child_corner t i c)
    (omega arith) near_x near_y
    (own_from_anchor D l p 0 deep hl hp (omega arith)) (own_from_anchor D l p 2 deep hl hp (omega arith)) (child_from_anchor D l p i c hl hp hi hc)

-- parent's type, face, child
on_face_count : ℕ → ℕ → ℕ → ℕ
on_face_count t f i = corners_on (own_corner t (triangle_face_corner f 0)) (own_corner t (triangle_face_corner f 1)) (child_corner t i) 3

-- the child i has two corners on the face f exactly where the table has it
abbrev Told : ℕ → ℕ → ℕ → Type 0
Told t f i = eqb (on_face_count t f i) 2 ≡ (eqb i (triangle_on_face t f 0) || eqb i (triangle_on_face t f 1))

told : (t f : ℕ) → t < 2 → f < 3 → (i : ℕ) → i < 4 → Told t f i
unfolding on_face_count own_corner child_corner
told zero zero ht hf = below_four (Told 0 0) refl refl refl refl
told zero (suc zero) ht hf = below_four (Told 0 1) refl refl refl refl
told zero (suc (suc zero)) ht hf = below_four (Told 0 2) refl refl refl refl
told (suc zero) zero ht hf = below_four (Told 1 0) refl refl refl refl
told (suc zero) (suc zero) ht hf = below_four (Told 1 1) refl refl refl refl
told (suc zero) (suc (suc zero)) ht hf = below_four (Told 1 2) refl refl refl refl
told (suc (suc t)) f ht hf = absurd (omega arith)
told zero (suc (suc (suc f))) ht hf = absurd (omega arith)
told (suc zero) (suc (suc (suc f))) ht hf = absurd (omega arith)

number_two : (t f i j : ℕ) → t < 2 → f < 3 → i < 4 → j < 2 → i ≡ triangle_on_face t f j → on_face_count t f i ≡ 2
number_two t f i j ht hf hi hj e = grind (arith, nat_tests, told t f ht hf i hi)

two_number : (t f i : ℕ) → t < 2 → f < 3 → i < 4 → on_face_count t f i ≡ 2 → (i ≡ triangle_on_face t f 0) ⊎ (i ≡ triangle_on_face t f 1)
two_number t f i ht hf hi e = grind (arith, nat_tests, told t f ht hf i hi)

-- a face child is a child with two corners on the face
pub triangle_face_children : (D l p f i : ℕ) → D ≤ 18 → l < D → p < 4 ^ l → f < 3 → i < 4 →
    Belongs (triangle D) l p f i f ↔
    (corners_on (triangle_corners D l p (triangle_face_corner f 0)) (triangle_corners D l p (triangle_face_corner f 1)) (triangle_corners D (suc l) (p * 4 + i)) 3 ≡ 2)
unfolding on_face_count
triangle_face_children D l p f i deep hl hp hf hi =
    let t = triangle_type l p in
    let ht = type_lt l p in
    let a = triangle_face_corner f 0 in
    let b = triangle_face_corner f 1 in
    let count : corners_on (triangle_corners D l p a) (triangle_corners D l p b) (triangle_corners D (suc l) (p * 4 + i)) 3 ≡ on_face_count t f i =
    corners_on_moved (triangle_x l p) (triangle_y l p) (side (suc l)) (own_corner t a) (own_corner t b) (child_corner t i)
    (triangle_corners D l p a) (triangle_corners D l p b) (triangle_corners D (suc l) (p * 4 + i)) 3 (pow_pos (18 - suc l))
    (own_from_anchor D l p a deep hl hp (face_corner_lt f 0 (omega arith))) (own_from_anchor D l p b deep hl hp (face_corner_lt f 1 (omega arith)))
    (λ c hc. child_from_anchor D l p i c hl hp hi hc) in (
      (λ z. let (j, (hj, _, _, _, ei, _)) = belongs_number D deep l p f i f z in count ∙ number_two t f i j ht hf hi hj ei),
      (λ e. belongs (two_number t f i ht hf hi (sym count ∙ e))),
    )
  where
    belongs : (i ≡ triangle_on_face (triangle_type l p) f 0) ⊎ (i ≡ triangle_on_face (triangle_type l p) f 1) → Belongs (triangle D) l p f i f
    belongs (inl e) = rw e (number_belongs D deep l p f 0 (omega arith) hl hp hf)
    belongs (inr e) = rw e (number_belongs D deep l p f 1 (omega arith) hl hp hf)

pub triangle_keeps : (D l p f i a : ℕ) → D ≤ 18 → Belongs (triangle D) l p f i a → a ≡ f
triangle_keeps D l p f i a deep b = (belongs_number D deep l p f i a b).1.5

pub triangle_shares : TriangleShares
triangle_shares l p f q g j e hj = triangle_same_corners 18 l p f q g j (omega arith) e hj

pub triangle_face_children_are : TriangleFaceChildren
triangle_face_children_are l p f i a hl hp hf hi =
    let (there, back) = triangle_face_children 18 l p f i (omega arith) hl hp hf hi in
    ((λ b. let e = triangle_keeps 18 l p f i a (omega arith) b in (e, there (rw e at b))), (λ c. rw c.0 (back c.1)))

pub triangle_nested : (D : ℕ) → D ≤ 18 → Nested (triangle_plan D)
triangle_nested D deep = record {
  few = omega arith;
  past = λ l p i h. past l p i h;
  outside = λ l p i out. outside l p i out;
  child = λ l p i j hl hp hi hj. triangle_child_box D l p i j deep hl hp hi hj;
}
  where
    past : (l p i : ℕ) → 3 ≤ i → triangle_corners D l p i ≡ (0, 0)
    past l p i h = grind (arith, nat_tests)

    outside : (l p i : ℕ) → (OnPlan (triangle_plan D) l p → ⊥) → triangle_corners D l p i ≡ (0, 0)
    outside l p i out = grind (arith, nat_tests, out)

pub triangle_flat : (D : ℕ) → Flat (triangle D)
triangle_flat D = record { narrow = omega arith; few = omega arith; plain = λ g h. grind (arith, nat_tests) }

pub triangle_agrees : (D : ℕ) → Agrees (triangle D) (triangle_plan D)
triangle_agrees D = record { width = refl; depth = refl }
