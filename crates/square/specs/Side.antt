-- The faces of a square and their numbers.
use Rattle.std.specs.Prelude.{◌≡◌, ℕ, ◌<◌, Result, MatchResult}
use Rattle.square.specs.declared.side.Side.{Side}
use Rattle.square.specs.declared.side.Side.TheVariants.{Left, Right, Bottom, Top}
use Rattle.grid.specs.declared.face.NoSuchFace.{NoSuchFace}

-- the number of a face
abbrev pub face_of : Side → ℕ
face_of Left = 0
face_of Right = 1
face_of Bottom = 2
face_of Top = 3

-- the face with this number, or an error with a number that no face has
abbrev pub HasFace : ℕ → Result Side NoSuchFace → Type 0
HasFace face r = MatchResult r (λ side. face_of side ≡ face) (λ e. (e.0 ≡ face) × (3 < face))
