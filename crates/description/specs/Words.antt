-- The word of each shape.
use Rattle.std.specs.Prelude.{ℕ, List, codes}
use Rattle.description.specs.declared.shape.Shape.{Shape}
use Rattle.description.specs.declared.shape.Shape.TheVariants.{Line, Square, Triangle, Prism, Hexahedron}

abbrev pub shape_word : Shape → List ℕ
shape_word Line = codes "line"
shape_word Square = codes "square"
shape_word Triangle = codes "triangle"
shape_word Prism = codes "prism"
shape_word Hexahedron = codes "hexahedron"
