-- The square on the plan.
use Rattle.std.proofs.Common.{◌≡◌, ℕ, zero, suc, ◌+◌, ◌-◌, ◌*◌, ◌/◌, ◌%◌, ◌^◌, ◌<◌, ◌≤◌, ◌||◌, eqb, ◌⊎◌, ◌↔◌, Some, sym, refl, ◌∙◌, inl, inr, arith, pow_pos}
use Rattle.std.proofs.lemmas.Bool.Decides.{nat_tests}
use Rattle.scheme.specs.declared.crossing.Crossing.TheVariants.{Inside}
use Rattle.scheme.specs.Plan.{side, InBox, Nested, Agrees, Flat, OnPlan}
use Rattle.models.specs.Corners.{corners_on}
use Rattle.scheme.specs.Scheme.{Belongs}
use Rattle.models.specs.Square.{square, square_on_face, square_x, square_y, square_corners, square_face_corner, square_across, square_plan, SquareShares, SquareFaceChildren}
use Rattle.models.proofs.Weaving.{last_lt}
use Rattle.shapes.specs.OnPlan.{child_box, side_half, two_sides, from_anchor}
use Rattle.models.proofs.OnSegment.{corners_on_moved, below_four}
use Rattle.models.proofs.SquareLaws.{Next, Ahead, inside_next, belongs_number, number_belongs}
use Rattle.models.proofs.SquareCells.{x_child, y_child}

corners_in : (D l p c : ℕ) → l ≤ D → p < 4 ^ l → c < 4 →
    square_corners D l p c ≡ ((square_x l p + c % 2) * side l, (square_y l p + c / 2) * side l)
corners_in D l p c hl hp hc = grind (arith, nat_tests)

face_corner_lt : (f j : ℕ) → j < 2 → square_face_corner f j < 4
face_corner_lt f j hj = grind (arith, nat_tests)

-- across leads to the cell with the same corners on its face
pub square_same_corners : (D l p f q g j : ℕ) → D ≤ 18 → square_across D l p f ≡ Some (Inside (q, g)) → j < 2 →
    square_corners D l p (square_face_corner f j) ≡ square_corners D l q (square_face_corner g j)
unfolding Next Ahead
square_same_corners D l p f q g j deep e hj =
    let (hl, hp, hq, _, n) = inside_next D deep l p f q g e in
    let c = square_face_corner f j in
    let c' = square_face_corner g j in
    let hc = face_corner_lt f j hj in
    let hc' = face_corner_lt g j hj in
    let x : square_x l p + c % 2 ≡ square_x l q + c' % 2 = grind (arith, nat_tests) in
    let y : square_y l p + c / 2 ≡ square_y l q + c' / 2 = grind (arith, nat_tests) in
    corners_in D l p c hl hp hc ∙ (rw (x, y)) ∙ sym (corners_in D l q c' hl hq hc')

-- corners in half sides from the parent's anchor: the parent's, and the child i's
own_corner : ℕ → ℕ × ℕ
own_corner c = (c % 2 * 2, c / 2 * 2)

child_corner : ℕ → ℕ → ℕ × ℕ
child_corner i c = (i % 2 + c % 2, i / 2 + c / 2)

own_from_anchor : (D l p c : ℕ) → D ≤ 18 → l < D → p < 4 ^ l → c < 4 →
    square_corners D l p c ≡ from_anchor (square_x l p) (square_y l p) (side (suc l)) (own_corner c)
unfolding own_corner
own_from_anchor D l p c deep hl hp hc =
    let half : side l ≡ side (suc l) * 2 = side_half l (omega arith) in
    corners_in D l p c (omega arith) hp hc ∙ (rw (half, two_sides (square_x l p) (c % 2) (side (suc l)), two_sides (square_y l p) (c / 2) (side (suc l))))

child_from_anchor : (D l p i c : ℕ) → l < D → p < 4 ^ l → i < 4 → c < 4 →
    square_corners D (suc l) (p * 4 + i) c ≡ from_anchor (square_x l p) (square_y l p) (side (suc l)) (child_corner i c)
unfolding child_corner
child_from_anchor D l p i c hl hp hi hc =
    let x : square_x (suc l) (p * 4 + i) + c % 2 ≡ 2 * square_x l p + (i % 2 + c % 2) = omega (arith, x_child l p i hi) in
    let y : square_y (suc l) (p * 4 + i) + c / 2 ≡ 2 * square_y l p + (i / 2 + c / 2) = omega (arith, y_child l p i hi) in
    corners_in D (suc l) (p * 4 + i) c hl (last_lt 4 l p i hp hi) hc ∙ (rw (x, y))

-- a child's corners lie inside its parent's bounding rectangle
pub square_child_box : (D l p i c : ℕ) → D ≤ 18 → l < D → p < 4 ^ l → i < 4 → c < 4 →
    InBox (square_corners D l p) 3 (square_corners D (suc l) (p * 4 + i) c)
unfolding own_corner child_corner
square_child_box D l p i c deep hl hp hi hc =
    child_box (square_corners D l p) 3 3 (square_corners D (suc l) (p * 4 + i) c) (square_x l p) (square_y l p) (side (suc l)) (child_corner i c)
    (omega arith) (omega arith) (omega arith)
    (own_from_anchor D l p 0 deep hl hp (omega arith)) (own_from_anchor D l p 3 deep hl hp (omega arith)) (child_from_anchor D l p i c hl hp hi hc)

on_face_count : ℕ → ℕ → ℕ
on_face_count f i = corners_on (own_corner (square_face_corner f 0)) (own_corner (square_face_corner f 1)) (child_corner i) 4

-- the child i has two corners on the face f exactly where the table has it
abbrev Told : ℕ → ℕ → Type 0
Told f i = eqb (on_face_count f i) 2 ≡ (eqb i (square_on_face f 0) || eqb i (square_on_face f 1))

told : (f : ℕ) → f < 4 → (i : ℕ) → i < 4 → Told f i
unfolding on_face_count own_corner child_corner
told zero hf = below_four (Told 0) refl refl refl refl
told (suc zero) hf = below_four (Told 1) refl refl refl refl
told (suc (suc zero)) hf = below_four (Told 2) refl refl refl refl
told (suc (suc (suc zero))) hf = below_four (Told 3) refl refl refl refl
told (suc (suc (suc (suc f)))) hf = absurd (omega arith)

number_two : (f i j : ℕ) → f < 4 → i < 4 → j < 2 → i ≡ square_on_face f j → on_face_count f i ≡ 2
number_two f i j hf hi hj e = grind (arith, nat_tests, told f hf i hi)

two_number : (f i : ℕ) → f < 4 → i < 4 → on_face_count f i ≡ 2 → (i ≡ square_on_face f 0) ⊎ (i ≡ square_on_face f 1)
two_number f i hf hi e = grind (arith, nat_tests, told f hf i hi)

-- a face child is a child with two corners on the face
pub square_face_children : (D l p f i : ℕ) → D ≤ 18 → l < D → p < 4 ^ l → f < 4 → i < 4 →
    Belongs (square D) l p f i f ↔
    (corners_on (square_corners D l p (square_face_corner f 0)) (square_corners D l p (square_face_corner f 1)) (square_corners D (suc l) (p * 4 + i)) 4 ≡ 2)
unfolding on_face_count
square_face_children D l p f i deep hl hp hf hi =
    let a = square_face_corner f 0 in
    let b = square_face_corner f 1 in
    let count : corners_on (square_corners D l p a) (square_corners D l p b) (square_corners D (suc l) (p * 4 + i)) 4 ≡ on_face_count f i =
    corners_on_moved (square_x l p) (square_y l p) (side (suc l)) (own_corner a) (own_corner b) (child_corner i)
    (square_corners D l p a) (square_corners D l p b) (square_corners D (suc l) (p * 4 + i)) 4 (pow_pos (18 - suc l))
    (own_from_anchor D l p a deep hl hp (face_corner_lt f 0 (omega arith))) (own_from_anchor D l p b deep hl hp (face_corner_lt f 1 (omega arith)))
    (λ c hc. child_from_anchor D l p i c hl hp hi hc) in (
      (λ z. let (j, (hj, _, _, _, ei, _)) = belongs_number D deep l p f i f z in count ∙ number_two f i j hf hi hj ei),
      (λ e. belongs (two_number f i hf hi (sym count ∙ e))),
    )
  where
    belongs : (i ≡ square_on_face f 0) ⊎ (i ≡ square_on_face f 1) → Belongs (square D) l p f i f
    belongs (inl e) = rw e (number_belongs D deep l p f 0 (omega arith) hl hp hf)
    belongs (inr e) = rw e (number_belongs D deep l p f 1 (omega arith) hl hp hf)

pub square_keeps : (D l p f i a : ℕ) → D ≤ 18 → Belongs (square D) l p f i a → a ≡ f
square_keeps D l p f i a deep b = (belongs_number D deep l p f i a b).1.5

pub square_shares : SquareShares
square_shares l p f q g j e hj = square_same_corners 18 l p f q g j (omega arith) e hj

pub square_face_children_are : SquareFaceChildren
square_face_children_are l p f i a hl hp hf hi =
    let (there, back) = square_face_children 18 l p f i (omega arith) hl hp hf hi in
    ((λ b. let e = square_keeps 18 l p f i a (omega arith) b in (e, there (rw e at b))), (λ c. rw c.0 (back c.1)))

pub square_nested : (D : ℕ) → D ≤ 18 → Nested (square_plan D)
square_nested D deep = record {
  few = omega arith;
  past = λ l p i h. past l p i h;
  outside = λ l p i out. outside l p i out;
  child = λ l p i j hl hp hi hj. square_child_box D l p i j deep hl hp hi hj;
}
  where
    past : (l p i : ℕ) → 4 ≤ i → square_corners D l p i ≡ (0, 0)
    past l p i h = grind (arith, nat_tests)

    outside : (l p i : ℕ) → (OnPlan (square_plan D) l p → ⊥) → square_corners D l p i ≡ (0, 0)
    outside l p i out = grind (arith, nat_tests, out)

pub square_flat : (D : ℕ) → Flat (square D)
square_flat D = record { narrow = omega arith; few = omega arith; plain = λ g h. grind (arith, nat_tests) }

pub square_agrees : (D : ℕ) → Agrees (square D) (square_plan D)
square_agrees D = record { width = refl; depth = refl }
