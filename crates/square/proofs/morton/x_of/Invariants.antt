use Rattle.std.proofs.Common.{◌≡◌, ◌-◌, ◌*◌, ◌/◌, ◌^◌}
use Rattle.models.specs.Square.{square_x}
use Rattle.square.proofs.morton.x_of.Given as goal

-- the digits above the last i are gathered
abbrev pub invariant-loop-i : goal.invariant-loop-i
invariant-loop-i l = l.x ≡ square_x (l.place.level.number - l.i) (l.place.number / 2 ^ (2 * l.i))
