-- Moving one cell along an axis of the square: a carry, or a borrow, through the bits of one coordinate in the place.
use Rattle.std.proofs.Common.{◌≡◌, ℕ, zero, suc, ◌+◌, ◌-◌, ◌*◌, ◌/◌, ◌%◌, ◌^◌, ◌<◌, ◌⊎◌, sym, refl, ap, ◌∙◌, inl, inr, pow-suc, arith}
use lib.Bits.{bit_and, bit_or, and_block, or_block}
use Rattle.models.proofs.Halves.{half_lt}

-- a bit that counts u
abbrev pub bit : ℕ → ℕ → ℕ
bit u zero = 0
bit u (suc d) = u

-- the bits of n, each in a digit of base 4, where it counts u
abbrev pub spread : ℕ → ℕ → ℕ → ℕ
spread u zero n = 0
spread u (suc l) n = spread u l (n / 2) * 4 + bit u (n % 2)

-- all such bits
abbrev pub mask : ℕ → ℕ → ℕ
mask u zero = 0
mask u (suc l) = mask u l * 4 + u

pub parity : (n : ℕ) → (n % 2 ≡ 0) ⊎ (n % 2 ≡ 1)
parity n = go (n % 2) refl
  where
    go : (d : ℕ) → n % 2 ≡ d → (n % 2 ≡ 0) ⊎ (n % 2 ≡ 1)
    go zero e = inl e
    go (suc zero) e = inr e
    go (suc (suc d)) e = absurd (omega arith)

-- what the digits of an axis, whose bits count u, and of the other one, whose bits count v, do
pub record Axis (u v : ℕ) : Type 0 where
  pub counts : 0 < u
  pub small : (d e : ℕ) → bit u d + bit v e < 4
  pub own : (d e : ℕ) → bit_and (bit u d + bit v e) u ≡ bit u d
  pub filled : (d e : ℕ) → bit_or (bit u d + bit v e) v ≡ bit u d + v
  pub apart : (d e : ℕ) → bit_or (bit u d) (bit v e) ≡ bit u d + bit v e
  pub rises : bit_and (v + 1) u ≡ u
  pub full : u + v ≡ 3
  pub falls : bit_and (u - 1) u ≡ 0
  pub borrowed : bit_and 3 u ≡ u

-- what holds of both bits clear, of either set, and of both set
by_bits : (u v : ℕ) (P : ℕ → ℕ → Type 0) → P 0 0 → P 0 v → P u 0 → P u v → (d e : ℕ) → P (bit u d) (bit v e)
by_bits u v P none right left both zero zero = none
by_bits u v P none right left both zero (suc e) = right
by_bits u v P none right left both (suc d) zero = left
by_bits u v P none right left both (suc d) (suc e) = both

pub x_axis : Axis 1 2
x_axis = record {
  counts = omega arith;
  small = by_bits 1 2 (λ a b. a + b < 4) (omega arith) (omega arith) (omega arith) (omega arith);
  own = by_bits 1 2 (λ a b. bit_and (a + b) 1 ≡ a) refl refl refl refl;
  filled = by_bits 1 2 (λ a b. bit_or (a + b) 2 ≡ a + 2) refl refl refl refl;
  apart = by_bits 1 2 (λ a b. bit_or a b ≡ a + b) refl refl refl refl;
  rises = refl;
  full = refl;
  falls = refl;
  borrowed = refl;
}

pub y_axis : Axis 2 1
y_axis = record {
  counts = omega arith;
  small = by_bits 2 1 (λ a b. a + b < 4) (omega arith) (omega arith) (omega arith) (omega arith);
  own = by_bits 2 1 (λ a b. bit_and (a + b) 2 ≡ a) refl refl refl refl;
  filled = by_bits 2 1 (λ a b. bit_or (a + b) 1 ≡ a + 1) refl refl refl refl;
  apart = by_bits 2 1 (λ a b. bit_or a b ≡ a + b) refl refl refl refl;
  rises = refl;
  full = refl;
  falls = refl;
  borrowed = refl;
}

module _ (u v : ℕ) (ax : Axis u v) where
  own_small : (d : ℕ) → bit u d < 4
  own_small d = let z : bit u d + bit v 0 < 4 = ax.small d 0 in omega arith

  other_small : (e : ℕ) → bit v e < 4
  other_small e = let z : bit u 0 + bit v e < 4 = ax.small 0 e in omega arith

  -- the bits of one's own coordinate
  pub own_part : (l a b : ℕ) → bit_and (spread u l a + spread v l b) (mask u l) ≡ spread u l a
  own_part zero a b = refl
  own_part (suc l) a b =
      let s = spread u l (a / 2) in
      let t = spread v l (b / 2) in
      let digits : s * 4 + bit u (a % 2) + (t * 4 + bit v (b % 2)) ≡ (s + t) * 4 + (bit u (a % 2) + bit v (b % 2)) = omega arith in
      ap (λ z. bit_and z (mask u l * 4 + u)) digits ∙
      and_block 2 (s + t) (mask u l) (bit u (a % 2) + bit v (b % 2)) u (ax.small (a % 2) (b % 2)) (omega (arith, ax.full)) ∙
      rw (own_part l (a / 2) (b / 2), ax.own (a % 2) (b % 2))

  -- the other coordinate's bits all set
  filled_up : (l a b : ℕ) → bit_or (spread u l a + spread v l b) (mask v l) ≡ spread u l a + mask v l
  filled_up zero a b = refl
  filled_up (suc l) a b =
      let s = spread u l (a / 2) in
      let t = spread v l (b / 2) in
      let digits : s * 4 + bit u (a % 2) + (t * 4 + bit v (b % 2)) ≡ (s + t) * 4 + (bit u (a % 2) + bit v (b % 2)) = omega arith in
      ap (λ z. bit_or z (mask v l * 4 + v)) digits ∙
      or_block 2 (s + t) (mask v l) (bit u (a % 2) + bit v (b % 2)) v (ax.small (a % 2) (b % 2)) (omega (arith, ax.full)) ∙
      rw (filled_up l (a / 2) (b / 2), ax.filled (a % 2) (b % 2)) (omega arith)

  joined : (l a b : ℕ) → bit_or (spread u l a) (spread v l b) ≡ spread u l a + spread v l b
  joined zero a b = refl
  joined (suc l) a b =
      let s = spread u l (a / 2) in
      let t = spread v l (b / 2) in
      or_block 2 s t (bit u (a % 2)) (bit v (b % 2)) (own_small (a % 2)) (other_small (b % 2)) ∙
      rw (joined l (a / 2) (b / 2), ax.apart (a % 2) (b % 2)) (omega arith)

  -- among the set bits of the other coordinate one's own stand as they are
  own_filled : (l a : ℕ) → bit_and (spread u l a + mask v l) (mask u l) ≡ spread u l a
  own_filled zero a = refl
  own_filled (suc l) a =
      let s = spread u l (a / 2) in
      let digits : s * 4 + bit u (a % 2) + (mask v l * 4 + v) ≡ (s + mask v l) * 4 + (bit u (a % 2) + v) = omega arith in
      ap (λ z. bit_and z (mask u l * 4 + u)) digits ∙
      and_block 2 (s + mask v l) (mask u l) (bit u (a % 2) + v) u (ax.small (a % 2) 1) (omega (arith, ax.full)) ∙
      rw (own_filled l (a / 2), ax.own (a % 2) 1)

  -- one more: the carry runs through the other coordinate's bits
  carried : (l a : ℕ) → suc a < 2 ^ l → bit_and (spread u l a + mask v l + 1) (mask u l) ≡ spread u l (suc a)
  carried zero a h = absurd (omega arith)
  carried (suc l) a h = elim (parity a) [
    | inl even ↦ (
        let s = spread u l (a / 2) in
        let half : suc a / 2 ≡ a / 2 = omega arith in
        let low : suc a % 2 ≡ 1 = omega arith in
        let digits : s * 4 + 0 + (mask v l * 4 + v) + 1 ≡ (s + mask v l) * 4 + (v + 1) = omega arith in
        rw (even, half, low) (
        ap (λ z. bit_and z (mask u l * 4 + u)) digits ∙
        and_block 2 (s + mask v l) (mask u l) (v + 1) u (omega (arith, ax.full, ax.counts)) (omega (arith, ax.full)) ∙
        rw (own_filled l (a / 2), ax.rises)))
    | inr odd ↦ (
        let s = spread u l (a / 2) in
        let half : suc a / 2 ≡ suc (a / 2) = omega arith in
        let low : suc a % 2 ≡ 0 = omega arith in
        let digits : s * 4 + u + (mask v l * 4 + v) + 1 ≡ (s + mask v l + 1) * 4 + 0 = omega (arith, ax.full) in
        let up : suc (a / 2) < 2 ^ l = omega (arith, pow-suc 2 l) in
        rw (odd, half, low) (
        ap (λ z. bit_and z (mask u l * 4 + u)) digits ∙
        and_block 2 (s + mask v l + 1) (mask u l) 0 u (omega arith) (omega (arith, ax.full)) ∙
        rw (carried l (a / 2) up) refl))
  ]

  pub spread_zero : (l : ℕ) → spread u l 0 ≡ 0
  spread_zero zero = refl
  spread_zero (suc l) = rw (spread_zero l)

  pub zero_spread : (l a : ℕ) → a < 2 ^ l → spread u l a ≡ 0 → a ≡ 0
  zero_spread zero a h e = omega arith
  zero_spread (suc l) a h e = elim (parity a) [
    | inl even ↦ (
        let z : spread u l (a / 2) * 4 + bit u 0 ≡ 0 = rw even at e in
        let up : a / 2 ≡ 0 = zero_spread l (a / 2) (half_lt l a h) (omega arith) in
        omega arith)
    | inr odd ↦ (let z : spread u l (a / 2) * 4 + bit u 1 ≡ 0 = rw odd at e in absurd (omega (arith, ax.counts)))
  ]

  -- one less: the borrow runs through the other coordinate's bits
  borrowed_from : (l a : ℕ) → 0 < a → a < 2 ^ l → bit_and (spread u l a - 1) (mask u l) ≡ spread u l (a - 1)
  borrowed_from zero a pos h = absurd (omega arith)
  borrowed_from (suc l) a pos h = elim (parity a) [
    | inl even ↦ (
        let s = spread u l (a / 2) in
        let half : (a - 1) / 2 ≡ a / 2 - 1 = omega arith in
        let low : (a - 1) % 2 ≡ 1 = omega arith in
        let up : 0 < a / 2 = omega arith in
        let there : (s ≡ 0 → ⊥) = λ z. (let none : a / 2 ≡ 0 = zero_spread l (a / 2) (half_lt l a h) z in omega arith) in
        let some : 0 < s = grind (arith, there) in
        let digits : s * 4 + 0 - 1 ≡ (s - 1) * 4 + 3 = omega arith in
        rw (even, half, low) (
        ap (λ z. bit_and z (mask u l * 4 + u)) digits ∙
        and_block 2 (s - 1) (mask u l) 3 u (omega arith) (omega (arith, ax.full)) ∙
        rw (borrowed_from l (a / 2) up (half_lt l a h), ax.borrowed)))
    | inr odd ↦ (
        let s = spread u l (a / 2) in
        let half : (a - 1) / 2 ≡ a / 2 = omega arith in
        let low : (a - 1) % 2 ≡ 0 = omega arith in
        let digits : s * 4 + u - 1 ≡ s * 4 + (u - 1) = omega (arith, ax.counts) in
        let kept : bit_and s (mask u l) ≡ s = only_own l (a / 2) in
        rw (odd, half, low) (
        ap (λ z. bit_and z (mask u l * 4 + u)) digits ∙
        and_block 2 s (mask u l) (u - 1) u (omega (arith, ax.full)) (omega (arith, ax.full)) ∙
        rw (kept, ax.falls)))
  ]
    where
      only_own : (l a : ℕ) → bit_and (spread u l a) (mask u l) ≡ spread u l a
      only_own zero a = refl
      only_own (suc l) a =
          and_block 2 (spread u l (a / 2)) (mask u l) (bit u (a % 2)) u (own_small (a % 2)) (omega (arith, ax.full)) ∙
          rw (only_own l (a / 2), own_digit (a % 2))
        where
          own_digit : (d : ℕ) → bit_and (bit u d) u ≡ bit u d
          own_digit d = let e : bit u d + bit v 0 ≡ bit u d = omega arith in ap (λ z. bit_and z u) (sym e) ∙ ax.own d 0

  -- all bits set: the last cell along the axis
  pub last_mask : (l a : ℕ) → suc a ≡ 2 ^ l → spread u l a ≡ mask u l
  last_mask zero a e = refl
  last_mask (suc l) a e =
      let odd : a % 2 ≡ 1 = omega (arith, pow-suc 2 l) in
      let up : suc (a / 2) ≡ 2 ^ l = omega (arith, pow-suc 2 l) in
      rw (odd, last_mask l (a / 2) up)

  pub mask_last : (l a : ℕ) → a < 2 ^ l → spread u l a ≡ mask u l → suc a ≡ 2 ^ l
  mask_last zero a h e = omega arith
  mask_last (suc l) a h e = elim (parity a) [
    | inl even ↦ (let z : spread u l (a / 2) * 4 + bit u 0 ≡ mask u l * 4 + u = rw even at e in absurd (omega (arith, ax.counts, ax.full)))
    | inr odd ↦ (
        let z : spread u l (a / 2) * 4 + bit u 1 ≡ mask u l * 4 + u = rw odd at e in
        let up : suc (a / 2) ≡ 2 ^ l = mask_last l (a / 2) (half_lt l a h) (omega arith) in
        omega (arith, pow-suc 2 l))
  ]

  -- one cell back, and one on, with the other coordinate kept
  pub borrow : (l a b : ℕ) → 0 < a → a < 2 ^ l → bit_or (bit_and (spread u l a - 1) (mask u l)) (spread v l b) ≡ spread u l (a - 1) + spread v l b
  borrow l a b pos h = ap (λ z. bit_or z (spread v l b)) (borrowed_from l a pos h) ∙ joined l (a - 1) b

  pub carry : (l a b : ℕ) → suc a < 2 ^ l →
      bit_or (bit_and (bit_or (spread u l a + spread v l b) (mask v l) + 1) (mask u l)) (spread v l b) ≡ spread u l (suc a) + spread v l b
  carry l a b h = ap (λ z. bit_or (bit_and (z + 1) (mask u l)) (spread v l b)) (filled_up l a b) ∙ ap (λ z. bit_or z (spread v l b)) (carried l a h) ∙ joined l (suc a) b
