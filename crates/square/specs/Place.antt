-- The square at a place.
use Rattle.std.specs.Prelude.{ℕ}
use Rattle.grid.specs.declared.place.Place.{Place}
use Rattle.models.specs.Square.{square_x, square_y}

-- its coordinates
abbrev pub x_at : Place → ℕ
x_at place = square_x place.level.number place.number

abbrev pub y_at : Place → ℕ
y_at place = square_y place.level.number place.number
