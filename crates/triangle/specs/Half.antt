-- The types of triangles and their numbers.
use Rattle.std.specs.Prelude.{◌≡◌, ℕ, ◌<◌, Result, MatchResult}
use Rattle.triangle.specs.declared.half.Half.{Half}
use Rattle.triangle.specs.declared.half.Half.TheVariants.{Lower, Upper}
use Rattle.triangle.specs.declared.half.NoSuchType.{NoSuchType}

-- the number of a type
abbrev pub type_of : Half → ℕ
type_of Lower = 0
type_of Upper = 1

-- the type with this number, or an error with a number that no type has
abbrev pub HasType : ℕ → Result Half NoSuchType → Type 0
HasType ty r = MatchResult r (λ half. type_of half ≡ ty) (λ e. (e.0 ≡ ty) × (1 < ty))
