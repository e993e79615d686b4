-- The anchor, the type and the place of a cell.
use Rattle.std.specs.Prelude.{ℕ}
use Rattle.models.specs.declared.anchor.Anchor.{Anchor}
use Rattle.models.specs.Moving.{anchor}
use Rattle.models.specs.Triangle.{triangle_at}
use Rattle.triangle.specs.Half.{type_of}
use Rattle.triangle.specs.declared.cell.Cell.{Cell}

abbrev pub anchored : Cell → Anchor
anchored cell = anchor cell.x cell.y (type_of cell.half)

abbrev pub place_of : Cell → ℕ
place_of cell = triangle_at cell.level.number cell.x cell.y (type_of cell.half)
