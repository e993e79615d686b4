use Rattle.std.proofs.Common.{◌-◌, ◌*◌, ◌/◌, ◌^◌, arith}
use Rattle.models.proofs.SquareCells.{x_lt}
use Rattle.models.proofs.SquareDigits.{x_start, x_more, x_done, x_small}
use Rattle.square.proofs.morton.x_of.Goals as goal

pub loop-i-init : goal.loop-i-init
loop-i-init c = x_start c.args.place.level.number c.args.place.number

pub overflow_mul-x : goal.overflow_mul-x
overflow_mul-x c =
    let small = x_small (c.args.place.level.number - c.loop-i.i) (c.args.place.number / 2 ^ (2 * c.loop-i.i)) c.loop-i.x (omega arith) c.loop-i.invariant in
    omega arith

pub overflow_add-x : goal.overflow_add-x
overflow_add-x c =
    let small = x_small (c.args.place.level.number - c.loop-i.i) (c.args.place.number / 2 ^ (2 * c.loop-i.i)) c.loop-i.x (omega arith) c.loop-i.invariant in
    omega arith

pub loop-i-preserved : goal.loop-i-preserved
loop-i-preserved c = x_more c.args.place.level.number c.loop-i.i c.args.place.number c.loop-i.x c.loop-i-test.true c.loop-i.auto.i c.loop-i.invariant

pub returns-clause-within : goal.returns-clause-within
returns-clause-within c =
    let e = x_done c.args.place.level.number c.loop-i.i c.args.place.number c.loop-i.x c.loop-i-test.false c.loop-i.invariant in
    omega (arith, e, x_lt c.args.place.level.number c.args.place.number)
