-- What a forest keeps of its scheme.
use Rattle.std.specs.Prelude.{◌≡◌, ℕ, ◌<◌, slice_index}
use Rattle.std.specs.Option.{unwrap_or}
use Rattle.scheme.specs.Scheme.{Model}
use Rattle.forest.specs.declared.signature.Signature.{Signature}

pub record Signs (m : Model) (s : Signature) : Type 0 where
  pub width : s.width ≡ m.w
  pub faces : s.faces ≡ m.F
  pub depth : s.depth ≡ m.D
  -- each face's sort, and 0 past the faces
  pub sorts : (g : ℕ) → g < 8 → slice_index s.sorts g ≡ unwrap_or (m.sort g) 0
