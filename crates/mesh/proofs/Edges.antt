-- The edge numbers of a face at a level have few bits.
use Rattle.std.proofs.Common.{ℕ, ◌-◌, ◌*◌, ◌≤◌, mul-le-mul, arith}

pub few_bits : (w l : ℕ) → w ≤ 4 → l ≤ 18 → (w - 1) * l ≤ 54
few_bits w l hw hl =
    let e : w - 1 ≤ 3 = omega arith in
    omega (arith, mul-le-mul e hl)
