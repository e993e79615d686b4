-- The bytes of a description: what an encoder writes for its values.
use Rattle.std.specs.Prelude.{◌≡◌, ℕ, zero, suc, ◌/◌, ◌%◌, List, [], ◌∷◌, ◌++◌, length, vec_items, Result, MatchResult}
use Rattle.std.specs.Int.{IsOutOfRange}
use Rattle.std.specs.List.{flat_map}
use Rattle.mesh.specs.declared.joint.Joint.{Joint}
use Rattle.description.specs.declared.shape.Shape.{Shape}
use Rattle.description.specs.declared.shape.Shape.TheVariants.{Line, Square, Triangle, Prism, Hexahedron}
use Rattle.description.specs.declared.shape.UnknownScheme.{UnknownScheme}
use Rattle.description.specs.declared.step.WindowStep.{WindowStep}
use Rattle.description.specs.declared.step.RangeStep.{RangeStep}
use Rattle.description.specs.declared.step.Step.{Step}
use Rattle.description.specs.declared.step.Step.TheVariants.{Window, Range, Balance}
use Rattle.description.specs.declared.description.Description.{Description}

-- the n bytes of x, high byte first
unfoldable pub be : ℕ → ℕ → List ℕ
be zero x = []
be (suc n) x = be n (x / 256) ++ (x % 256 ∷ [])

-- a head as its bytes hold it, where any number may stand for the scheme
pub record Head : Type 0 where
  pub scheme : ℕ
  pub roots : ℕ
  pub level : ℕ
  pub limit : ℕ
  pub rows : ℕ

-- seven bytes
unfoldable pub head_bytes : Head → List ℕ
head_bytes h = be 1 h.scheme ++ be 2 h.roots ++ be 1 h.level ++ be 1 h.limit ++ be 2 h.rows

-- seven bytes
unfoldable pub row_bytes : Joint → List ℕ
row_bytes j = be 2 j.root ++ be 1 j.face ++ be 2 j.other_root ++ be 1 j.other_face ++ be 1 j.turn

-- a window's nineteen bytes after its tag
unfoldable pub window_bytes : WindowStep → List ℕ
window_bytes w = be 2 w.root ++ be 1 w.target ++ be 4 w.x0 ++ be 4 w.y0 ++ be 4 w.x1 ++ be 4 w.y1

-- a range's nineteen bytes after its tag
unfoldable pub range_bytes : RangeStep → List ℕ
range_bytes r = be 2 r.root ++ be 1 r.target ++ be 8 r.first ++ be 8 r.last

-- a step's tag, 6, 7 or 8, and its value
unfoldable pub step_bytes : Step → List ℕ
step_bytes (Window w) = be 1 6 ++ window_bytes w
step_bytes (Range r) = be 1 7 ++ range_bytes r
step_bytes Balance = be 1 8

-- the number of a shape's scheme
abbrev pub scheme_of : Shape → ℕ
scheme_of Line = 1
scheme_of Square = 2
scheme_of Triangle = 3
scheme_of Prism = 4
scheme_of Hexahedron = 5

-- the result is the shape of this scheme, or an error with a number that no shape's scheme has
abbrev pub Decodes : ℕ → Result Shape UnknownScheme → Type 0
Decodes n r = MatchResult r (λ shape. scheme_of shape ≡ n) (λ e. (e.0 ≡ n) × IsOutOfRange 1 5 n)

-- what a description says
pub record Contents : Type 0 where
  pub scheme : ℕ
  pub roots : ℕ
  pub level : ℕ
  pub limit : ℕ
  pub joints : List Joint
  pub steps : List Step

abbrev pub contents : Description → Contents
contents d = record {
  scheme = scheme_of d.shape;
  roots = d.roots;
  level = d.level;
  limit = d.limit;
  joints = vec_items d.joints;
  steps = vec_items d.steps;
}

-- the head counts the rows
abbrev pub head_of : Contents → Head
head_of c = record {
  scheme = c.scheme;
  roots = c.roots;
  level = c.level;
  limit = c.limit;
  rows = length c.joints;
}

abbrev pub encoded : Contents → List ℕ
encoded c = head_bytes (head_of c) ++ flat_map row_bytes c.joints ++ flat_map step_bytes c.steps
