-- Weaving and splitting from the highest digit down: what one more digit does, and that 54 bits hold all.
use Rattle.std.proofs.Common.{◌≡◌, ℕ, suc, ◌+◌, ◌-◌, ◌*◌, ◌/◌, ◌%◌, ◌^◌, ◌<◌, ◌≤◌, sym, ap, ◌∙◌, mul_comm, mul-le-mul, mul-zero, mul-suc, div-one, arith, pow_pos, pow_mono, pow-add}
use Rattle.scheme.proofs.Powers.{pow_mul}
use Rattle.std.proofs.lemmas.Nat.{shr-shr}
use Rattle.models.specs.Weaving.{weave, left, right}
use Rattle.models.proofs.Weaving.{weave_lt, left_lt, right_lt}

-- the bits below a digit
pub below : (w v top i : ℕ) → w ≤ v → i ≤ top → v * top ≤ 54 → w * (i - 1) ≤ 54
below w v top i le hi fits = let less : i - 1 ≤ top = omega arith in omega (arith, mul-le-mul le less)

-- a number of no more digits than the highest
within : (w v top l n : ℕ) → w ≤ v → l ≤ top → v * top ≤ 54 → n < (2 ^ w) ^ l → n < 2 ^ 54
within w v top l n le hl fits hn =
    let m : w * l ≤ 54 = omega (arith, mul-le-mul le hl) in
    omega (arith, hn, pow_mul 2 w l, pow_mono m)

drop_digit : (n w i j : ℕ) → i ≡ suc j → n / 2 ^ (w * j) / 2 ^ w ≡ n / 2 ^ (w * i)
drop_digit n w i j e = rw e (shr-shr n (w * j) w ∙ ap (λ z. n / 2 ^ z) (sym (mul-suc w j)))

none_below : (n w i : ℕ) → i ≤ 0 → n / 2 ^ (w * i) ≡ n
none_below n w i hi = let z : i ≡ 0 = omega arith in rw (z, mul-zero) (div-one n)

all_of : (top i : ℕ) → i ≤ 0 → top - i ≡ top
all_of top i hi = omega arith

module _ (a b top : ℕ) where
  pub weave_within : (l x y : ℕ) → l ≤ top → (a + b) * top ≤ 54 → weave (2 ^ a) (2 ^ b) l x y < 2 ^ 54
  weave_within l x y hl fits =
      within (a + b) (a + b) top l (weave (2 ^ a) (2 ^ b) l x y) (omega arith) hl fits (rw (pow-add 2 a b) (weave_lt (2 ^ a) (2 ^ b) (pow_pos a) (pow_pos b) l x y))

  pub left_within : (l n : ℕ) → l ≤ top → (a + b) * top ≤ 54 → left (2 ^ a) (2 ^ b) l n < 2 ^ 54
  left_within l n hl fits = within a (a + b) top l (left (2 ^ a) (2 ^ b) l n) (omega arith) hl fits (left_lt (2 ^ a) (2 ^ b) (pow_pos a) (pow_pos b) l n)

  pub right_within : (l n : ℕ) → l ≤ top → (a + b) * top ≤ 54 → right (2 ^ a) (2 ^ b) l n < 2 ^ 54
  right_within l n hl fits = within b (a + b) top l (right (2 ^ a) (2 ^ b) l n) (omega arith) hl fits (right_lt (2 ^ a) (2 ^ b) (pow_pos a) (pow_pos b) l n)

  -- after the digits from i on, the one below them
  module _ (i j : ℕ) (e : i ≡ suc j) (hi : i ≤ top) where
    next : top - j ≡ suc (top - i)
    next = omega arith

    pub weave_more : (x y : ℕ) →
        weave (2 ^ a) (2 ^ b) (top - i) (x / 2 ^ (a * i)) (y / 2 ^ (b * i)) * 2 ^ (a + b) + (y / 2 ^ (b * j) % 2 ^ b * 2 ^ a + x / 2 ^ (a * j) % 2 ^ a) ≡
        weave (2 ^ a) (2 ^ b) (top - j) (x / 2 ^ (a * j)) (y / 2 ^ (b * j))
    weave_more x y =
        let d : ℕ = x / 2 ^ (a * j) % 2 ^ a in
        let f : ℕ = y / 2 ^ (b * j) % 2 ^ b in
        let pair : f * 2 ^ a + d ≡ d + 2 ^ a * f = omega (arith, mul_comm f (2 ^ a)) in
        rw (next, pow-add 2 a b, drop_digit x a i j e, drop_digit y b i j e, pair)

    pub left_more : (n : ℕ) →
        left (2 ^ a) (2 ^ b) (top - i) (n / 2 ^ ((a + b) * i)) * 2 ^ a + n / 2 ^ ((a + b) * j) % 2 ^ (a + b) % 2 ^ a ≡
        left (2 ^ a) (2 ^ b) (top - j) (n / 2 ^ ((a + b) * j))
    left_more n = rw (next, ← pow-add 2 a b, drop_digit n (a + b) i j e)

    pub right_more : (n : ℕ) →
        right (2 ^ a) (2 ^ b) (top - i) (n / 2 ^ ((a + b) * i)) * 2 ^ b + n / 2 ^ ((a + b) * j) % 2 ^ (a + b) / 2 ^ a ≡
        right (2 ^ a) (2 ^ b) (top - j) (n / 2 ^ ((a + b) * j))
    right_more n = rw (next, ← pow-add 2 a b, drop_digit n (a + b) i j e)

  -- at the lowest digit all are there
  module _ (i : ℕ) (hi : i ≤ 0) where
    pub weave_all : (x y : ℕ) → weave (2 ^ a) (2 ^ b) (top - i) (x / 2 ^ (a * i)) (y / 2 ^ (b * i)) ≡ weave (2 ^ a) (2 ^ b) top x y
    weave_all x y = rw (all_of top i hi, none_below x a i hi, none_below y b i hi)

    pub left_all : (n : ℕ) → left (2 ^ a) (2 ^ b) (top - i) (n / 2 ^ ((a + b) * i)) ≡ left (2 ^ a) (2 ^ b) top n
    left_all n = rw (all_of top i hi, none_below n (a + b) i hi)

    pub right_all : (n : ℕ) → right (2 ^ a) (2 ^ b) (top - i) (n / 2 ^ ((a + b) * i)) ≡ right (2 ^ a) (2 ^ b) top n
    right_all n = rw (all_of top i hi, none_below n (a + b) i hi)
