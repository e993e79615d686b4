-- Weaving two numbers into one: bounds, inverses, and what a last digit does.
use Rattle.std.proofs.Common.{◌≡◌, ℕ, zero, suc, ◌+◌, ◌*◌, ◌/◌, ◌%◌, ◌^◌, ◌<◌, ap, ◌∙◌, mod-lt, mul_assoc, mul_comm, div-lt_iff_lt-mul, add-mul, add_comm, mul-pos, pow-suc, div-add-mod', arith}
use native.Mathlib.Nat.{pow-zero, mod-add-div}
use lib.Arith.{digits_div, digits_mod, digits_lt}
use Rattle.models.specs.Weaving.{weave, left, right}

-- one digit of each
pub digit_lt : (s t d e : ℕ) → d < s → e < t → d + s * e < s * t
digit_lt s t d e hd he = let z : e * s + d < t * s = digits_lt he hd in omega (arith, z, mul_comm s e, mul_comm s t)

pub digit_mod : (s d e : ℕ) → d < s → (d + s * e) % s ≡ d
digit_mod s d e hd = ap (λ z. z % s) (add_comm d (s * e) ∙ ap (λ z. z + d) (mul_comm s e)) ∙ digits_mod e hd

pub digit_div : (s d e : ℕ) → d < s → (d + s * e) / s ≡ e
digit_div s d e hd = ap (λ z. z / s) (add_comm d (s * e) ∙ ap (λ z. z + d) (mul_comm s e)) ∙ digits_div e hd

pub div_lt : (s t c : ℕ) → 0 < s → c < s * t → c / s < t
div_lt s t c hs hc = (div-lt_iff_lt-mul hs).1 (rw (mul_comm t s) hc)

-- a number at one level more
module _ (b l n : ℕ) where
  pub last_lt : (d : ℕ) → n < b ^ l → d < b → n * b + d < b ^ suc l
  last_lt d hn hd = rw pow-suc (digits_lt hn hd)

  pub front_lt : 0 < b → n < b ^ suc l → n / b < b ^ l
  front_lt hb hn = (div-lt_iff_lt-mul hb).1 (rw pow-suc at hn)

module _ (s t : ℕ) (hs : 0 < s) (ht : 0 < t) where
  base_pos : 0 < s * t
  base_pos = mul-pos hs ht

  pub weave_lt : (l x y : ℕ) → weave s t l x y < (s * t) ^ l
  weave_lt zero x y = omega (arith, pow-zero (s * t))
  weave_lt (suc l) x y = last_lt (s * t) l (weave s t l (x / s) (y / t)) (x % s + s * (y % t)) (weave_lt l (x / s) (y / t)) (digit_lt s t (x % s) (y % t) (mod-lt x hs) (mod-lt y ht))

  pub left_lt : (l n : ℕ) → left s t l n < s ^ l
  left_lt zero n = omega (arith, pow-zero s)
  left_lt (suc l) n = last_lt s l (left s t l (n / (s * t))) (n % (s * t) % s) (left_lt l (n / (s * t))) (mod-lt (n % (s * t)) hs)

  pub right_lt : (l n : ℕ) → right s t l n < t ^ l
  right_lt zero n = omega (arith, pow-zero t)
  right_lt (suc l) n = last_lt t l (right s t l (n / (s * t))) (n % (s * t) / s) (right_lt l (n / (s * t))) (div_lt s t (n % (s * t)) hs (mod-lt n base_pos))

  -- what a last digit does
  pub left_last : (l n c : ℕ) → c < s * t → left s t (suc l) (n * (s * t) + c) ≡ left s t l n * s + c % s
  left_last l n c hc = rw (digits_div n hc, digits_mod n hc)

  pub right_last : (l n c : ℕ) → c < s * t → right s t (suc l) (n * (s * t) + c) ≡ right s t l n * t + c / s
  right_last l n c hc = rw (digits_div n hc, digits_mod n hc)

  pub weave_last : (l x y d e : ℕ) → d < s → e < t → weave s t (suc l) (x * s + d) (y * t + e) ≡ weave s t l x y * (s * t) + (d + s * e)
  weave_last l x y d e hd he = rw (digits_div x hd, digits_mod x hd, digits_div y he, digits_mod y he)

  -- the level above
  pub left_up : (l n : ℕ) → left s t (suc l) n / s ≡ left s t l (n / (s * t))
  left_up l n = digits_div (left s t l (n / (s * t))) (mod-lt (n % (s * t)) hs)

  pub right_up : (l n : ℕ) → right s t (suc l) n / t ≡ right s t l (n / (s * t))
  right_up l n = digits_div (right s t l (n / (s * t))) (div_lt s t (n % (s * t)) hs (mod-lt n base_pos))

  -- left and right undo weave
  pub left_weave : (l x y : ℕ) → x < s ^ l → left s t l (weave s t l x y) ≡ x
  left_weave zero x y hx = omega (arith, pow-zero s)
  left_weave (suc l) x y hx =
      let hd : x % s < s = mod-lt x hs in
      left_last l (weave s t l (x / s) (y / t)) (x % s + s * (y % t)) (digit_lt s t (x % s) (y % t) hd (mod-lt y ht))
      ∙ rw (left_weave l (x / s) (y / t) (front_lt s l x hs hx), digit_mod s (x % s) (y % t) hd) (div-add-mod' x s)

  pub right_weave : (l x y : ℕ) → y < t ^ l → right s t l (weave s t l x y) ≡ y
  right_weave zero x y hy = omega (arith, pow-zero t)
  right_weave (suc l) x y hy =
      let hd : x % s < s = mod-lt x hs in
      right_last l (weave s t l (x / s) (y / t)) (x % s + s * (y % t)) (digit_lt s t (x % s) (y % t) hd (mod-lt y ht))
      ∙ rw (right_weave l (x / s) (y / t) (front_lt t l y ht hy), digit_div s (x % s) (y % t) hd) (div-add-mod' y t)

  -- and weave undoes them
  pub weave_parts : (l n : ℕ) → n < (s * t) ^ l → weave s t l (left s t l n) (right s t l n) ≡ n
  weave_parts zero n hn = omega (arith, pow-zero (s * t))
  weave_parts (suc l) n hn =
      let c : ℕ = n % (s * t) in
      let hc : c < s * t = mod-lt n base_pos in
      weave_last l (left s t l (n / (s * t))) (right s t l (n / (s * t))) (c % s) (c / s) (mod-lt c hs) (div_lt s t c hs hc)
      ∙ rw (weave_parts l (n / (s * t)) (front_lt (s * t) l n base_pos hn), mod-add-div c s) (div-add-mod' n (s * t))

pub step : (n b d unit acc : ℕ) → (n * b + d) * unit + acc ≡ n * (b * unit) + (d * unit + acc)
step n b d unit acc = omega (arith, add-mul (n * b) d unit, mul_assoc n b unit)

-- a loop from the last digit on: the digits so far are acc, and unit is what the next one counts
module _ (s t l unit acc : ℕ) where
  pub weave_step : (x y : ℕ) → weave s t (suc l) x y * unit + acc ≡ weave s t l (x / s) (y / t) * (s * t * unit) + ((x % s + s * (y % t)) * unit + acc)
  weave_step x y = step (weave s t l (x / s) (y / t)) (s * t) (x % s + s * (y % t)) unit acc

  pub left_step : (n : ℕ) → left s t (suc l) n * unit + acc ≡ left s t l (n / (s * t)) * (s * unit) + (n % (s * t) % s * unit + acc)
  left_step n = step (left s t l (n / (s * t))) s (n % (s * t) % s) unit acc

  pub right_step : (n : ℕ) → right s t (suc l) n * unit + acc ≡ right s t l (n / (s * t)) * (t * unit) + (n % (s * t) / s * unit + acc)
  right_step n = step (right s t l (n / (s * t))) t (n % (s * t) / s) unit acc
