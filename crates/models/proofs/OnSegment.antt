-- Which points lie on a segment does not change as the plan is moved and scaled.
use Rattle.std.proofs.Common.{◌≡◌, ℕ, zero, suc, ◌+◌, ◌-◌, ◌*◌, ◌<◌, ◌≤◌, Bool, cond, eqb, leb, sym, refl, ap, ◌∙◌, inl, inr, mul-le-mul_right, mul_comm, mul-lt-mul_of_pos_right, mul-pos, arith}
use native.Mathlib.Nat.{mul-sub, mul-mul-mul_comm, eq_of_mul-eq-mul_right}
use Rattle.std.proofs.lemmas.Bool.{le-leb, lt-leb, eq-eqb, ne_eqb, cases_lt, cases_eq}
use Rattle.models.specs.Corners.{on_segment, corners_on}
use Rattle.shapes.specs.OnPlan.{from_anchor}

leb_moved : (x s a b : ℕ) → 0 < s → leb ((2 * x + a) * s) ((2 * x + b) * s) ≡ leb a b
leb_moved x s a b hs = elim (cases_lt b a) [
  | inl lt ↦ (let up : 2 * x + b < 2 * x + a = omega arith in
      lt-leb ((2 * x + a) * s) ((2 * x + b) * s) (mul-lt-mul_of_pos_right up hs) ∙ sym (lt-leb a b lt))
  | inr le ↦ (let up : 2 * x + a ≤ 2 * x + b = omega arith in
      le-leb ((2 * x + a) * s) ((2 * x + b) * s) (mul-le-mul_right s up) ∙ sym (le-leb a b le))
]

eqb_scaled : (k m n : ℕ) → 0 < k → eqb (m * k) (n * k) ≡ eqb m n
eqb_scaled k m n hk = elim (cases_eq m n) [
  | inl e ↦ eq-eqb (m * k) (n * k) (rw e) ∙ sym (eq-eqb m n e)
  | inr ne ↦ ne_eqb (m * k) (n * k) (λ e. ne (eq_of_mul-eq-mul_right k hk m n e)) ∙ sym (ne_eqb m n ne)
]

difference : (x s a b : ℕ) → (2 * x + a) * s - (2 * x + b) * s ≡ (a - b) * s
difference x s a b =
    let e : 2 * x + a - (2 * x + b) ≡ a - b = omega arith in
    rw (mul_comm (2 * x + a) s, mul_comm (2 * x + b) s, ← mul-sub, e, mul_comm s (a - b))

product : (x y s a b c d : ℕ) → ((2 * x + a) * s - (2 * x + b) * s) * ((2 * y + c) * s - (2 * y + d) * s) ≡ (a - b) * (c - d) * (s * s)
product x y s a b c d = rw (difference x s a b, difference y s c d, mul-mul-mul_comm (a - b) s (c - d) s)

pub on_segment_moved : (x y s : ℕ) (a b q : ℕ × ℕ) → 0 < s →
    on_segment (from_anchor x y s a) (from_anchor x y s b) (from_anchor x y s q) ≡ on_segment a b q
on_segment_moved x y s a b q hs =
    rw (
      leb_moved x s a.0 q.0 hs,
      leb_moved x s q.0 b.0 hs,
      leb_moved y s a.1 q.1 hs,
      leb_moved y s q.1 b.1 hs,
      product x y s q.0 a.0 b.1 a.1,
      product y x s q.1 a.1 b.0 a.0,
      eqb_scaled (s * s) ((q.0 - a.0) * (b.1 - a.1)) ((q.1 - a.1) * (b.0 - a.0)) (mul-pos hs hs),
    )

pub corners_on_moved : (x y s : ℕ) (a b : ℕ × ℕ) (c : ℕ → ℕ × ℕ) (a' b' : ℕ × ℕ) (c' : ℕ → ℕ × ℕ) (n : ℕ) → 0 < s →
    a' ≡ from_anchor x y s a → b' ≡ from_anchor x y s b → ((i : ℕ) → i < n → c' i ≡ from_anchor x y s (c i)) →
    corners_on a' b' c' n ≡ corners_on a b c n
corners_on_moved x y s a b c a' b' c' zero hs ea eb ec = refl
corners_on_moved x y s a b c a' b' c' (suc n) hs ea eb ec =
    let rest = corners_on_moved x y s a b c a' b' c' n hs ea eb (λ i hi. ec i (omega arith)) in
    let last : on_segment a' b' (c' n) ≡ on_segment a b (c n) = rw (ea, eb, ec n (omega arith)) (on_segment_moved x y s a b (c n) hs) in
    ap (λ (k : ℕ). k + cond (on_segment a' b' (c' n)) 1 0) rest ∙ ap (λ (t : Bool). corners_on a b c n + cond t 1 0) last

-- what holds of 0, 1, 2 and 3
pub below_four : (P : ℕ → Type 0) → P 0 → P 1 → P 2 → P 3 → (i : ℕ) → i < 4 → P i
below_four P p0 p1 p2 p3 zero h = p0
below_four P p0 p1 p2 p3 (suc zero) h = p1
below_four P p0 p1 p2 p3 (suc (suc zero)) h = p2
below_four P p0 p1 p2 p3 (suc (suc (suc zero))) h = p3
below_four P p0 p1 p2 p3 (suc (suc (suc (suc i)))) h = absurd (omega arith)
