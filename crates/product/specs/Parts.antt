-- What a woven number is made of, where low and high are the bits of the digits of the two.
use Rattle.std.specs.Prelude.{◌≡◌, ℕ, ◌+◌, ◌/◌, ◌%◌, ◌^◌, ◌<◌}
use Rattle.models.specs.Weaving.{left, right}

-- how many woven numbers of l digits there are
abbrev pub count_of : ℕ → ℕ → ℕ → ℕ
count_of low high l = (2 ^ (low + high)) ^ l

pub record Parts (low high l n : ℕ) (v : ℕ × ℕ) : Type 0 where
  pub within : n < count_of low high l
  pub first : v.0 ≡ left (2 ^ low) (2 ^ high) l n
  pub second : v.1 ≡ right (2 ^ low) (2 ^ high) l n

-- the same of one digit
pub record Digits (low high n : ℕ) (v : ℕ × ℕ) : Type 0 where
  pub within : n < 2 ^ (low + high)
  pub first : v.0 ≡ n % 2 ^ low
  pub second : v.1 ≡ n / 2 ^ low
  pub few : (v.0 < 4) × (v.1 < 4)
