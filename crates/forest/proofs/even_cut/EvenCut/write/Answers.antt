use Rattle.std.proofs.Common.{arith}
use Rattle.std.proofs.lemmas.List.FromFn.{fill_by_all}
use Rattle.tiling.specs.Cells.{blank}
use Rattle.tiling.specs.Positions.{even}
use Rattle.forest.proofs.even_cut.EvenCut.write.Goals as goal

pub returns : goal.returns
returns c =
    let cut = c.args.self.now in
    fill_by_all (even cut.width cut.level) c.loop-i.records _ blank (omega (arith, c.requires)) (λ k h. c.loop-i.invariant k (omega (arith, c.requires)))
