use Rattle.std.proofs.Common.{◌≡◌, ◌-◌, ◌/◌, ◌^◌}
use Rattle.models.specs.Square.{square_at}
use Rattle.square.proofs.morton.place_of.Given as goal

-- the digits above the last i are woven
abbrev pub invariant-loop-i : goal.invariant-loop-i
invariant-loop-i l = l.place ≡ square_at (l.fn.level.number - l.i) (l.x / 2 ^ l.i) (l.y / 2 ^ l.i)
