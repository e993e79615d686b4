-- A flat scheme on the plan: corners in ticks, 2^18 to a root's side, and bounding rectangles.
use Rattle.std.specs.Prelude.{◌≡◌, ℕ, zero, suc, ◌+◌, ◌-◌, ◌*◌, ◌^◌, ◌<◌, ◌≤◌, min, max, List, [], ◌∷◌, Some}
use Rattle.scheme.specs.Scheme.{Model}

-- where a flat scheme's cells lie: its width and depth once more, and its corners
pub record Plan : Type 0 where
  pub w : ℕ
  pub D : ℕ
  -- how many corners a cell has
  pub count : ℕ
  -- level, place, number of the corner
  pub corner : ℕ → ℕ → ℕ → ℕ × ℕ

-- a cell's side in ticks
abbrev pub side : ℕ → ℕ
side l = 2 ^ (18 - l)

-- the least and the greatest of f 0 .. f n
abbrev pub least : (ℕ → ℕ) → ℕ → ℕ
least f zero = f 0
least f (suc n) = min (least f n) (f (suc n))

abbrev pub greatest : (ℕ → ℕ) → ℕ → ℕ
greatest f zero = f 0
greatest f (suc n) = max (greatest f n) (f (suc n))

-- a point in the bounding rectangle of the corners 0 .. n
abbrev pub InBox : (ℕ → ℕ × ℕ) → ℕ → ℕ × ℕ → Type 0
InBox c n (x, y) =
    (least (λ i. (c i).0) n ≤ x) × (x ≤ greatest (λ i. (c i).0) n) × (least (λ i. (c i).1) n ≤ y) × (y ≤ greatest (λ i. (c i).1) n)

-- all corners of a cell, answered together; those past the count are (0, 0)
abbrev pub outline_of : Plan → ℕ → ℕ → List (ℕ × ℕ)
outline_of q l p = q.corner l p 0 ∷ q.corner l p 1 ∷ q.corner l p 2 ∷ q.corner l p 3 ∷ []

abbrev pub OnPlan : Plan → ℕ → ℕ → Type 0
OnPlan q l p = (l ≤ q.D) × (p < (2 ^ q.w) ^ l)

pub record Nested (q : Plan) : Type 0 where
  pub few : (1 ≤ q.count) × (q.count ≤ 4)
  -- past the count, and outside the bounds, a corner is (0, 0)
  pub past : (l p i : ℕ) → q.count ≤ i → q.corner l p i ≡ (0, 0)
  pub outside : (l p i : ℕ) → (OnPlan q l p → ⊥) → q.corner l p i ≡ (0, 0)
  -- a child's corners lie inside its parent's bounding rectangle
  pub child : (l p i j : ℕ) → l < q.D → p < (2 ^ q.w) ^ l → i < 2 ^ q.w → j < q.count →
      InBox (q.corner l p) (q.count - 1) (q.corner (suc l) (p * 2 ^ q.w + i) j)

-- what makes a scheme flat, besides its corners
pub record Flat (m : Model) : Type 0 where
  pub narrow : m.w ≤ 2
  pub few : m.F ≤ 4
  pub plain : (g : ℕ) → g < m.F → m.sort g ≡ Some 0

-- a plan tells the width and depth of its scheme
pub record Agrees (m : Model) (q : Plan) : Type 0 where
  pub width : q.w ≡ m.w
  pub depth : q.D ≡ m.D
