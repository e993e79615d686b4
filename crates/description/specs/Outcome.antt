-- What `read` answers, and what a caller may rest on.
use Rattle.std.specs.Prelude.{◌≡◌, ℕ, ◌≤◌, ◌⊎◌, List, length, Ok, Err, vec_items, Result, All}
use Rattle.description.specs.declared.description.Description.{Description}
use Rattle.description.specs.declared.refusal.Refusal.{Refusal}
use Rattle.description.specs.Told.{told}
use Rattle.description.specs.Format.{contents, scheme_of}
use Rattle.description.specs.Bounds.{StepWithin}
use Rattle.description.specs.Reading.{granted, refused, Reads}

-- an outcome of the bytes; or there was no memory, which says nothing of them
abbrev pub Answered : List ℕ → Result Description Refusal → Type 0
Answered bytes (Ok d) = Reads bytes (granted (contents d))
Answered bytes (Err e) = (told e ≡ (17, 0)) ⊎ Reads bytes (refused (told e).0 (told e).1)

-- a description that was granted is inside all bounds
pub record Bounded (d : Description) : Type 0 where
  pub roots_from : 1 ≤ d.roots
  pub roots_to : d.roots ≤ 256
  pub level_to : d.level ≤ 18
  pub limit_to : d.limit ≤ 18
  pub joints_to : length (vec_items d.joints) ≤ 1024
  pub turns_to : All (λ j. j.turn ≤ 1) (vec_items d.joints)
  pub steps_within : All (StepWithin (scheme_of d.shape)) (vec_items d.steps)
