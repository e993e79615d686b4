-- The line on the plan: corners shared across a face, and a child inside its parent's rectangle.
use Rattle.std.specs.Prelude.{◌≡◌, ℕ, suc, ◌+◌, ◌*◌, ◌^◌, ◌<◌, ◌≤◌, Some, refl}
use Rattle.std.proofs.Common.{sym, ◌∙◌, arith, pow-suc, mul-le-mul_right}
use Rattle.std.proofs.lemmas.Bool.Decides.{nat_tests}
use Rattle.scheme.specs.declared.crossing.Crossing.TheVariants.{Inside}
use Rattle.scheme.specs.Plan.{side, InBox, Nested, Agrees, Flat, OnPlan}
use Rattle.shapes.specs.Segment.{line, line_across, line_face_child, line_corner, line_plan}
use Rattle.shapes.specs.OnPlan.{between_corners, side_half, two_sides}
use Rattle.shapes.specs.LineLaws.{line_inside}

corner_in : (D l p i : ℕ) → l ≤ D → p < 2 ^ l → i < 2 → line_corner D l p i ≡ ((p + i) * side l, 0)
corner_in D l p i hl hp hi = grind (arith, nat_tests)

child_lt : (l p i : ℕ) → p < 2 ^ l → i < 2 → p * 2 + i < 2 ^ suc l
child_lt l p i hp hi = omega (arith, pow-suc 2 l)

pub line_shares : (D : ℕ) → D ≤ 18 → (l p f q g : ℕ) → line_across D l p f ≡ Some (Inside (q, g)) → line_corner D l p f ≡ line_corner D l q g
line_shares D deep l p f q g e =
    let (hl, hp, hq, ways) = line_inside D deep l p f q g e in
    let hf : f < 2 = omega arith in
    let hg : g < 2 = omega arith in
    let same : p + f ≡ q + g = omega arith in
    corner_in D l p f hl hp hf ∙ rw same (sym (corner_in D l q g hl hq hg))

face_child_is : (D l p f i a : ℕ) → line_face_child D l p f 0 ≡ Some (i, a) → (l < D) × (p < 2 ^ l) × (f < 2) × (i ≡ f) × (a ≡ f)
face_child_is D l p f i a e = grind (arith, nat_tests)

-- a corner of a parent, in its child's sides
own_corner : (l p d : ℕ) → l < 18 → (p + d) * side l ≡ (2 * p + d * 2) * side (suc l)
own_corner l p d hl = let half : side l ≡ side (suc l) * 2 = side_half l hl in rw half (two_sides p d (side (suc l)))

pub line_face_child_keeps : (D : ℕ) → D ≤ 18 → (l p f i a : ℕ) → line_face_child D l p f 0 ≡ Some (i, a) → line_corner D (suc l) (p * 2 + i) a ≡ line_corner D l p f
line_face_child_keeps D deep l p f i a e =
    let (hl, hp, hf, ei, ea) = face_child_is D l p f i a e in
    let hi : i < 2 = omega arith in
    let ha : a < 2 = omega arith in
    let hl' : l ≤ D = omega arith in
    let same : p * 2 + i + a ≡ 2 * p + f * 2 = omega arith in
    corner_in D (suc l) (p * 2 + i) a hl (child_lt l p i hp hi) ha ∙
    rw (same, ← own_corner l p f (omega arith)) (sym (corner_in D l p f hl' hp hf))

pub line_nested : (D : ℕ) → D ≤ 18 → Nested (line_plan D)
line_nested D deep = record {
  few = omega arith;
  past = λ l p i h. past l p i h;
  outside = λ l p i out. outside l p i out;
  child = λ l p i j hl hp hi hj. child l p i j hl hp hi hj;
}
  where
    past : (l p i : ℕ) → 2 ≤ i → line_corner D l p i ≡ (0, 0)
    past l p i h = grind (arith, nat_tests)

    outside : (l p i : ℕ) → (OnPlan (line_plan D) l p → ⊥) → line_corner D l p i ≡ (0, 0)
    outside l p i out = grind (arith, nat_tests, out)

    child : (l p i j : ℕ) → l < D → p < 2 ^ l → i < 2 → j < 2 → InBox (line_corner D l p) 1 (line_corner D (suc l) (p * 2 + i) j)
    child l p i j hl hp hi hj =
        let s = side (suc l) in
        let low : line_corner D l p 0 ≡ ((2 * p + 0 * 2) * s, 0) = corner_in D l p 0 (omega arith) hp (omega arith) ∙ rw (own_corner l p 0 (omega arith)) in
        let high : line_corner D l p 1 ≡ ((2 * p + 1 * 2) * s, 0) = corner_in D l p 1 (omega arith) hp (omega arith) ∙ rw (own_corner l p 1 (omega arith)) in
        let here : line_corner D (suc l) (p * 2 + i) j ≡ ((p * 2 + i + j) * s, 0) = corner_in D (suc l) (p * 2 + i) j hl (child_lt l p i hp hi) hj in
        let lo : 2 * p + 0 * 2 ≤ p * 2 + i + j = omega arith in
        let hi : p * 2 + i + j ≤ 2 * p + 1 * 2 = omega arith in
        between_corners (line_corner D l p) 1 0 1 (line_corner D (suc l) (p * 2 + i) j) (omega arith) (omega arith)
        (rw (low, here) (mul-le-mul_right s lo)) (rw (high, here) (mul-le-mul_right s hi)) (rw (low, here) (omega arith)) (rw (high, here) (omega arith))

pub line_flat : (D : ℕ) → Flat (line D)
line_flat D = record { narrow = omega arith; few = omega arith; plain = λ g h. grind (arith, nat_tests) }

pub line_agrees : (D : ℕ) → Agrees (line D) (line_plan D)
line_agrees D = record { width = refl; depth = refl }
