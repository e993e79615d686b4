use Rattle.std.proofs.Common.{◌-◌, ◌/◌, ◌^◌, arith}
use Rattle.models.proofs.SquareDigits.{at_start, at_more, at_small}
use Rattle.square.proofs.morton.place_of.Goals as goal

pub loop-i-init : goal.loop-i-init
loop-i-init c = at_start c.args.level.number c.args.x c.args.y

pub overflow_mul-place : goal.overflow_mul-place
overflow_mul-place c =
    let small = at_small (c.args.level.number - c.loop-i.i) (c.args.x / 2 ^ c.loop-i.i) (c.args.y / 2 ^ c.loop-i.i) c.loop-i.place (omega arith) c.loop-i.invariant in
    omega arith

pub overflow_add-place : goal.overflow_add-place
overflow_add-place c =
    let small = at_small (c.args.level.number - c.loop-i.i) (c.args.x / 2 ^ c.loop-i.i) (c.args.y / 2 ^ c.loop-i.i) c.loop-i.place (omega arith) c.loop-i.invariant in
    omega arith

pub loop-i-preserved : goal.loop-i-preserved
loop-i-preserved c =
    rw c.from.ensures (at_more c.args.level.number c.loop-i.i c.args.x c.args.y c.loop-i.place c.loop-i-test.true c.loop-i.auto.i c.loop-i.invariant)
