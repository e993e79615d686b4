-- A power of a power.
use Rattle.std.proofs.Common.{◌≡◌, ℕ, zero, suc, ◌*◌, ◌^◌, sym, ap, ◌∙◌, mul-zero, mul-suc, pow-suc, pow-add}
use Rattle.std.proofs.Math.Nat.{pow-zero}

pub pow_mul : (a m n : ℕ) → a ^ (m * n) ≡ (a ^ m) ^ n
pow_mul a m zero = ap (λ x. a ^ x) (mul-zero m) ∙ pow-zero a ∙ sym (pow-zero (a ^ m))
pow_mul a m (suc n) = ap (λ x. a ^ x) (mul-suc m n) ∙ pow-add a (m * n) m ∙ ap (λ x. x * a ^ m) (pow_mul a m n) ∙ sym (pow-suc (a ^ m) n)
