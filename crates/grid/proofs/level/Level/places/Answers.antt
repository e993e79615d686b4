use Rattle.std.proofs.Common.{ℕ, ◌*◌, ◌^◌, ◌≤◌, arith, pow_mono}
use Rattle.scheme.proofs.Powers.{pow_mul}
use Rattle.grid.proofs.level.Level.places.Goals as goal

-- at most 2^36 places
small : (l : ℕ) → l ≤ 18 → 2 ^ (2 * l) ≤ 68719476736
small l within =
    let twice : 2 * l ≤ 36 = omega arith in
    let up : 2 ^ (2 * l) ≤ 2 ^ 36 = pow_mono twice in
    up

pub returns-clause-value : goal.returns-clause-value
returns-clause-value c = omega (arith, pow_mul 2 2 c.args.self.number, small c.args.self.number c.args.self.within)

pub returns-clause-bounds : goal.returns-clause-bounds
returns-clause-bounds c = omega (arith, small c.args.self.number c.args.self.within)
