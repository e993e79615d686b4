-- Corners on the plan: bounding rectangles, and a child's side within its parent's.
use Rattle.std.specs.Prelude.{◌≡◌, ℕ, zero, suc, ◌+◌, ◌-◌, ◌*◌, ◌<◌, ◌≤◌}
use Rattle.std.proofs.Common.{pow-suc, mul-le-mul_right, mul_right_comm, mul_assoc, arith}
use Rattle.std.proofs.Math.Decide.{ℕ_discrete}
use Rattle.scheme.specs.Plan.{side, least, greatest, InBox}

pub least_le : (f : ℕ → ℕ) (n i : ℕ) → i ≤ n → least f n ≤ f i
least_le f zero i h = let e : i ≡ 0 = omega arith in rw e (omega arith)
least_le f (suc n) i h = elim (ℕ_discrete i (suc n)) [
  | yes e ↦ rw e (omega arith)
  | no ne ↦ omega (arith, least_le f n i (omega arith))
]

pub le_greatest : (f : ℕ → ℕ) (n i : ℕ) → i ≤ n → f i ≤ greatest f n
le_greatest f zero i h = let e : i ≡ 0 = omega arith in rw e (omega arith)
le_greatest f (suc n) i h = elim (ℕ_discrete i (suc n)) [
  | yes e ↦ rw e (omega arith)
  | no ne ↦ omega (arith, le_greatest f n i (omega arith))
]

-- a point between two corners lies in the bounding rectangle
pub between_corners : (c : ℕ → ℕ × ℕ) (n i j : ℕ) (q : ℕ × ℕ) → i ≤ n → j ≤ n →
    ((c i).0 ≤ q.0) → (q.0 ≤ (c j).0) → ((c i).1 ≤ q.1) → (q.1 ≤ (c j).1) → InBox c n q
between_corners c n i j q hi hj x_lo x_hi y_lo y_hi = (
  omega (arith, least_le (λ k. (c k).0) n i hi),
  omega (arith, le_greatest (λ k. (c k).0) n j hj),
  omega (arith, least_le (λ k. (c k).1) n i hi),
  omega (arith, le_greatest (λ k. (c k).1) n j hj),
)

pub side_half : (l : ℕ) → l < 18 → side l ≡ side (suc l) * 2
side_half l h = let e : 18 - l ≡ suc (18 - suc l) = omega arith in rw (e, pow-suc)

-- a parent's side is two of its child's
pub two_sides : (x d s : ℕ) → (x + d) * (s * 2) ≡ (2 * x + d * 2) * s
two_sides x d s = let e : 2 * x + d * 2 ≡ (x + d) * 2 = omega arith in rw (e, ← mul_assoc, mul_right_comm (x + d) s 2)

-- a point in half sides s from the anchor (x, y) of a cell
abbrev pub from_anchor : ℕ → ℕ → ℕ → ℕ × ℕ → ℕ × ℕ
from_anchor x y s v = ((2 * x + v.0) * s, (2 * y + v.1) * s)

-- up to two half sides from the anchor is in the rectangle of a cell with corners at its anchor and across from it
pub child_box : (c : ℕ → ℕ × ℕ) (n j : ℕ) (q : ℕ × ℕ) (x y s : ℕ) (v : ℕ × ℕ) → j ≤ n → v.0 ≤ 2 → v.1 ≤ 2 →
    c 0 ≡ from_anchor x y s (0, 0) → c j ≡ from_anchor x y s (2, 2) → q ≡ from_anchor x y s v → InBox c n q
child_box c n j q x y s v hj hx hy low high here =
    let x_lo : 2 * x + 0 ≤ 2 * x + v.0 = omega arith in
    let x_hi : 2 * x + v.0 ≤ 2 * x + 2 = omega arith in
    let y_lo : 2 * y + 0 ≤ 2 * y + v.1 = omega arith in
    let y_hi : 2 * y + v.1 ≤ 2 * y + 2 = omega arith in
    between_corners c n 0 j q (omega arith) hj
    (rw (low, here) (mul-le-mul_right s x_lo)) (rw (high, here) (mul-le-mul_right s x_hi))
    (rw (low, here) (mul-le-mul_right s y_lo)) (rw (high, here) (mul-le-mul_right s y_hi))
