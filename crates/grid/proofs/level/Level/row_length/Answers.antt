use Rattle.std.proofs.Common.{◌^◌, ◌≤◌, arith, pow_mono}
use Rattle.grid.proofs.level.Level.row_length.Goals as goal

pub returns-clause-bounds : goal.returns-clause-bounds
returns-clause-bounds c =
    let small : 2 ^ c.args.self.number ≤ 2 ^ 18 = pow_mono c.args.self.within in
    omega arith
