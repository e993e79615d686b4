-- How the places of two schemes are woven at a level.
use Rattle.std.specs.Prelude.{◌≡◌, ℕ, ◌<◌, ◌≤◌, Some, None, Option}
use Rattle.scheme.specs.Scheme.{Model}
use Rattle.models.specs.Product.{depth}
use Rattle.product.specs.declared.weaving.Weaving.{Weaving}

-- digits of both widths, as many as the level says, where it is not too deep
pub record Woven (a b : Model) (l : ℕ) (v : Weaving) : Type 0 where
  pub deep : l ≤ depth a b
  pub low : v.low ≡ a.w
  pub high : v.high ≡ b.w
  pub level : v.level ≡ l
  pub low_some : 1 ≤ v.low
  pub high_some : 1 ≤ v.high

abbrev pub CellsOf : Model → Model → ℕ → Option Weaving → Type 0
CellsOf a b l (Some v) = Woven a b l v
CellsOf a b l None = depth a b < l
