-- The faces of a triangle and their numbers.
use Rattle.std.specs.Prelude.{◌≡◌, ℕ, ◌<◌, Result, MatchResult}
use Rattle.grid.specs.declared.face.NoSuchFace.{NoSuchFace}
use Rattle.triangle.specs.declared.face.Face.{Face}
use Rattle.triangle.specs.declared.face.Face.TheVariants.{Far, Long, Near}

-- the number of a face
abbrev pub face_of : Face → ℕ
face_of Far = 0
face_of Long = 1
face_of Near = 2

-- the face with this number, or an error with a number that no face has
abbrev pub HasFace : ℕ → Result Face NoSuchFace → Type 0
HasFace face r = MatchResult r (λ f. face_of f ≡ face) (λ e. (e.0 ≡ face) × (2 < face))
