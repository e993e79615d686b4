use Rattle.std.proofs.Common.{◌<◌, add-one, arith}
use Rattle.models.proofs.TriangleDigits.{woven_more, woven_fits, woven_done, at_small}
use Rattle.triangle.specs.Cell.{place_of}
use Rattle.triangle.specs.Half.{type_of}
use Rattle.triangle.specs.declared.half.Half.{Half}
use Rattle.triangle.specs.declared.half.Half.TheVariants.{Lower, Upper}
use Rattle.triangle.specs.declared.cell.Cell.{Cell}
use Rattle.triangle.proofs.cell.Cell.place.Goals as goal

type_small : (half : Half) → type_of half < 2
type_small Lower = omega arith
type_small Upper = omega arith

small : (s : Cell) → place_of s < 68719476736
small s = at_small s.level.number s.x s.y (type_of s.half) s.level.within (type_small s.half)

pub overflow_add-place : goal.overflow_add-place
overflow_add-place c = omega (
  arith,
  woven_fits c.args.self.level.number c.loop-i.i c.loop-i.cell.x c.loop-i.cell.y (type_of c.loop-i.cell.half) c.loop-i.place (place_of c.args.self)
      c.loop-i-test.true c.loop-i.invariant.digits c.child_number.result (small c.args.self) c.child_number.ensures,
)

pub loop-i-preserved : goal.loop-i-preserved
loop-i-preserved c = record {
  level = omega arith;
  digits = rw (add-one c.loop-i.i, c.parent-cell.ensures.x, c.parent-cell.ensures.y) (
      woven_more c.args.self.level.number c.loop-i.i c.loop-i.cell.x c.loop-i.cell.y (type_of c.loop-i.cell.half) c.loop-i.place (place_of c.args.self)
      c.loop-i-test.true c.loop-i.invariant.digits c.child_number.result (type_of c.parent-cell.result.half)
      (small c.args.self) c.child_number.ensures c.parent-cell.ensures.half);
}

pub returns : goal.returns
returns c = woven_done c.args.self.level.number c.loop-i.i _ _ _ c.loop-i.place _ c.loop-i-test.false c.loop-i.invariant.digits
