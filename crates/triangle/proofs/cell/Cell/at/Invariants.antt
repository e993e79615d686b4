use Rattle.std.proofs.Common.{◌≡◌, ◌-◌, ◌*◌, ◌/◌, ◌^◌}
use Rattle.models.specs.Moving.{triangle_anchor}
use Rattle.triangle.specs.Cell.{anchored}
use Rattle.triangle.proofs.cell.Cell.at.Given as goal

-- the digits above the last i lead to the cell
abbrev pub invariant-loop-i : goal.invariant-loop-i
invariant-loop-i l = record {
  level : l.cell.level.number ≡ l.place.level.number - l.i;
  digits : anchored l.cell ≡ triangle_anchor (l.place.level.number - l.i) (l.place.number / 2 ^ (2 * l.i));
}
