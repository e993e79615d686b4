use Rattle.std.proofs.Common.{◌≤◌, ◌^◌, mul-le-mul, arith, pow_mono}
use Rattle.forest.proofs.even_cut.EvenCut.count.Goals as goal

-- at most 256 roots of 2^54 cells
pub overflow_mul-result : goal.overflow_mul-result
overflow_mul-result c =
    let cut = c.args.self.now in
    let few : c.from.result ≤ 256 = omega (arith, cut.few, c.from.ensures) in
    let small : c.cells.result ≤ 2 ^ 54 = omega (arith, c.cells.ensures, pow_mono cut.fits) in
    omega (arith, mul-le-mul few small)
