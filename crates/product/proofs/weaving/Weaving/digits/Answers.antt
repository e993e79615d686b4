use Rattle.std.proofs.Common.{◌≡◌, ℕ, ◌+◌, ◌-◌, ◌*◌, ◌/◌, ◌%◌, ◌^◌, ◌<◌, ◌≤◌, refl, mod-lt, add_comm, arith, pow_pos, pow_mono}
use lib.Bits.{bit_and}
use Rattle.std.proofs.lemmas.Nat.{one_shl, and_mask, shr_below}
use Rattle.product.proofs.weaving.Weaving.digits.Goals as goal

low_few : (n k : ℕ) → k ≤ 2 → n % 2 ^ k < 4
low_few n k few = let four : 2 ^ k ≤ 4 = pow_mono few in omega (arith, mod-lt n (pow_pos k), four)

high_few : (n j k : ℕ) → k ≤ 2 → n < 2 ^ (j + k) → n / 2 ^ j < 4
high_few n j k few hn = let four : 2 ^ k ≤ 4 = pow_mono few in omega (arith, shr_below n k j (rw (add_comm k j) hn), four)

pub overflow_sub-result : goal.overflow_sub-result
overflow_sub-result c = omega (arith, one_shl c.args.self.low 8 (omega arith), pow_pos c.args.self.low)

pub returns-then-number-width : goal.returns-then-number-width
returns-then-number-width c =
    let v = c.args.self in
    let few : v.low < 8 = omega arith in
    let all : 2 ^ c.width.result ≡ 2 ^ (v.low + v.high) = rw c.width.ensures in
    let below : c.args.number < 2 ^ (v.low + v.high) = omega (arith, one_shl c.width.result 8 (omega arith), all) in
    let low : bit_and c.args.number ((1 * 2 ^ v.low) % 256 - 1) ≡ c.args.number % 2 ^ v.low = rw (one_shl v.low 8 few) (and_mask c.args.number v.low) in
    record { within = below; first = low; second = refl; few = (rw low (low_few c.args.number v.low v.fits.0), high_few c.args.number v.low v.high v.fits.1 below) }

pub returns-else-number-width : goal.returns-else-number-width
returns-else-number-width c =
    let v = c.args.self in
    let all : 2 ^ c.width.result ≡ 2 ^ (v.low + v.high) = rw c.width.ensures in
    omega (arith, one_shl c.width.result 8 (omega arith), all)
