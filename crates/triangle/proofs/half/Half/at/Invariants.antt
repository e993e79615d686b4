use Rattle.std.proofs.Common.{◌≡◌, ◌-◌, ◌*◌, ◌/◌, ◌^◌}
use Rattle.models.specs.Triangle.{triangle_type}
use Rattle.triangle.proofs.half.Half.at.Given as goal

-- the last i digits do not tell the type
abbrev pub invariant-loop-i : goal.invariant-loop-i
invariant-loop-i l = triangle_type (l.place.level.number - l.i) (l.place.number / 2 ^ (2 * l.i)) ≡ triangle_type l.place.level.number l.place.number
