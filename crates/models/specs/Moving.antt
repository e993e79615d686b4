-- One cell on across a face, as the code of the square and of the triangle computes it.
use Rattle.std.specs.Prelude.{ℕ, suc, ◌+◌, ◌-◌, ◌*◌, ◌^◌, cond, Some, None, Option, ◌==◌, bit_and, bit_or, nat_lt}
use Rattle.models.specs.declared.anchor.Anchor.{Anchor}
use Rattle.models.specs.Square.{square_at}
use Rattle.models.specs.Triangle.{triangle_child, triangle_x, triangle_y, triangle_type}

-- place, the bits of the coordinate along the axis, those of the other: one cell back or on, by a borrow or a carry through
-- the bits in between
abbrev pub lowered : ℕ → ℕ → ℕ → Option ℕ
lowered p along beside = cond (bit_and p along == 0) None (Some (bit_or (bit_and (bit_and p along - 1) along) (bit_and p beside)))

abbrev pub raised : ℕ → ℕ → ℕ → Option ℕ
raised p along beside = cond (bit_and p along == along) None (Some (bit_or (bit_and (bit_or p beside + 1) along) (bit_and p beside)))

-- level, x, y, face: the place of the square across the face, or none at the root's edge
abbrev pub square_beyond : ℕ → ℕ → ℕ → ℕ → Option ℕ
square_beyond l x y f =
    cond (f == 0) (cond (x == 0) None (Some (square_at l (x - 1) y)))
    (cond (f == 1) (cond (suc x == 2 ^ l) None (Some (square_at l (suc x) y)))
    (cond (f == 2) (cond (y == 0) None (Some (square_at l x (y - 1))))
    (cond (suc y == 2 ^ l) None (Some (square_at l x (suc y))))))

-- the face of a square that lies against the face f of another
abbrev pub square_opposite : ℕ → ℕ
square_opposite f = cond (f == 0) 1 (cond (f == 1) 0 (cond (f == 2) 3 2))

-- x, y, face: where a square lies along the root's face
abbrev pub square_number : ℕ → ℕ → ℕ → ℕ
square_number x y f = cond (nat_lt f 2) y x

-- x, y, type
abbrev pub anchor : ℕ → ℕ → ℕ → Anchor
anchor x y t = record { x = x; y = y; ty = t }

-- level, place: the anchor and the type of a triangle
abbrev pub triangle_anchor : ℕ → ℕ → Anchor
triangle_anchor l p = anchor (triangle_x l p) (triangle_y l p) (triangle_type l p)

-- a triangle's child
abbrev pub child_of : Anchor → ℕ → Anchor
child_of c i = anchor (2 * c.x + (triangle_child c.ty i).0) (2 * c.y + (triangle_child c.ty i).1) (triangle_child c.ty i).2

-- level, x, y, type, face: the triangle across the face, or none at the root's edge
abbrev pub triangle_beyond : ℕ → ℕ → ℕ → ℕ → ℕ → Option Anchor
triangle_beyond l x y t f = cond (t == 0)
    (cond (f == 0) (cond (suc x == 2 ^ l) None (Some (anchor (suc x) y 1)))
    (cond (f == 1) (cond (x == y) None (Some (anchor x y 1)))
    (cond (y == 0) None (Some (anchor x (y - 1) 1)))))
    (cond (f == 0) (Some (anchor x (suc y) 0))
    (cond (f == 1) (Some (anchor x y 0))
    (Some (anchor (x - 1) y 0))))

-- x, y, face: where a triangle lies along the root's face
abbrev pub triangle_edge_number : ℕ → ℕ → ℕ → ℕ
triangle_edge_number x y f = cond (f == 0) y x
