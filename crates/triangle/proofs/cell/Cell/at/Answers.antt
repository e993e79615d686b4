use Rattle.std.proofs.Common.{◌∙◌, arith}
use Rattle.models.proofs.TriangleDigits.{anchor_start, anchor_more}
use Rattle.triangle.specs.Cell.{anchored}
use Rattle.triangle.proofs.cell.Cell.at.Goals as goal

pub loop-i-init : goal.loop-i-init
loop-i-init c = record {
  level = omega arith;
  digits = c.root-cell.ensures.value ∙ anchor_start c.args.place.level.number c.args.place.number;
}

pub loop-i-preserved : goal.loop-i-preserved
loop-i-preserved c = record {
  level = omega arith;
  digits = c.child-cell.ensures.value ∙
      anchor_more c.args.place.level.number c.loop-i.i c.args.place.number (anchored c.loop-i.cell) c.loop-i-test.true c.loop-i.auto.i c.loop-i.invariant.digits;
}
