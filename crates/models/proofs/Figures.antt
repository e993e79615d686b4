-- The figures of docs/RULES.md hold, by computing.
use Rattle.std.proofs.Common.{refl}
use Rattle.models.specs.Figures.{SquareFigures, TriangleFigures, PrismFigures, HexahedronFigures, Figures}
use Rattle.models.specs.Square.{square_x, square_y, square_at}
use Rattle.models.specs.Triangle.{triangle_x, triangle_y, triangle_type, triangle_at}

square_figures : SquareFigures
unfolding square_x square_y square_at
square_figures = (refl, refl, refl, refl)

triangle_figures : TriangleFigures
unfolding triangle_x triangle_y triangle_type triangle_at
triangle_figures = (refl, refl, refl, refl, refl)

prism_figures : PrismFigures
prism_figures = refl

hexahedron_figures : HexahedronFigures
hexahedron_figures = (refl, refl, refl, refl)

pub figures : Figures
figures = (square_figures, triangle_figures, prism_figures, hexahedron_figures)
