-- The figures of docs/RULES.md.
use Rattle.std.specs.Prelude.{◌≡◌, Some}
use Rattle.scheme.specs.declared.crossing.Crossing.TheVariants.{Inside, Edge}
use Rattle.shapes.specs.Segment.{line}
use Rattle.models.specs.Square.{square, square_x, square_y}
use Rattle.models.specs.Triangle.{triangle, triangle_x, triangle_y, triangle_type}
use Rattle.models.specs.Product.{product_across, product_face_child}

-- square, level 2: place 6 is (2, 1); its face 1 leads to place 7, face 0; place 7's face 1 is edge (1, 1)
abbrev pub SquareFigures : Type 0
SquareFigures = (square_x 2 6 ≡ 2) × (square_y 2 6 ≡ 1) ×
    ((square 18).across 2 6 1 ≡ Some (Inside (7, 0))) × ((square 18).across 2 7 1 ≡ Some (Edge 1 1))

-- triangle, level 1: place 2 is (1, 0), type 1; place 1's face 0 is edge (0, 0); place 3's face 1 is edge (1, 1)
abbrev pub TriangleFigures : Type 0
TriangleFigures = (triangle_x 1 2 ≡ 1) × (triangle_y 1 2 ≡ 0) × (triangle_type 1 2 ≡ 1) ×
    ((triangle 18).across 1 1 0 ≡ Some (Edge 0 0)) × ((triangle 18).across 1 3 1 ≡ Some (Edge 1 1))

-- prism, level 1: place 5's face 3 leads to place 1, face 4
abbrev pub PrismFigures : Type 0
PrismFigures = product_across (triangle 18) (line 18) 1 5 3 ≡ Some (Inside (1, 4))

-- the hexahedron root's face 4 has the face children 0, 1, 2, 3
abbrev pub HexahedronFigures : Type 0
HexahedronFigures =
    (product_face_child (square 18) (line 18) 0 0 4 0 ≡ Some (0, 4)) × (product_face_child (square 18) (line 18) 0 0 4 1 ≡ Some (1, 4)) ×
    (product_face_child (square 18) (line 18) 0 0 4 2 ≡ Some (2, 4)) × (product_face_child (square 18) (line 18) 0 0 4 3 ≡ Some (3, 4))

abbrev pub Figures : Type 0
Figures = SquareFigures × TriangleFigures × PrismFigures × HexahedronFigures
