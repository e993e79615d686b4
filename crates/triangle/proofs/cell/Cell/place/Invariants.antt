use Rattle.std.proofs.Common.{◌≡◌, ◌-◌}
use Rattle.models.proofs.TriangleDigits.{Woven}
use Rattle.triangle.specs.Cell.{place_of}
use Rattle.triangle.specs.Half.{type_of}
use Rattle.triangle.proofs.cell.Cell.place.Given as goal

-- the last i digits of the place are woven, and the cell is the one above them
abbrev pub invariant-loop-i : goal.invariant-loop-i
invariant-loop-i l = record {
  level : l.cell.level.number ≡ l.fn.self.level.number - l.i;
  digits : Woven l.fn.self.level.number l.i l.cell.x l.cell.y (type_of l.cell.half) l.place (place_of l.fn.self);
}
