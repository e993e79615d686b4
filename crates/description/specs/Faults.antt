-- How bytes are at fault, where a head, a row or a step should begin: n is the refusal's number.
use Rattle.std.specs.Prelude.{◌≡◌, ◌≢◌, ℕ, ◌<◌, ◌⊎◌, List, ◌∷◌, ◌++◌, length}
use Rattle.description.specs.Format.{head_bytes, row_bytes, step_bytes}
use Rattle.description.specs.Bounds.{HeadFits, HeadWithin, RowFits, RowWithin, StepFits, StepWithin}

-- fewer bytes are left than the part has
pub record Cut (size n : ℕ) (rest : List ℕ) : Type 0 where
  pub number : n ≡ 1
  pub short : length rest < size

-- the bytes begin with a part, of which a value is outside its bounds
pub record Beyond {V : Type 0} (bytes : V → List ℕ) (Fits Within : V → Type 0) (n : ℕ) (rest : List ℕ) : Type 0 where
  pub number : n ≡ 4
  pub value : V
  pub more : List ℕ
  pub begins : rest ≡ bytes value ++ more
  pub fits : Fits value
  pub beyond : ¬ (Within value)

-- the bytes begin with a tag that no step has
pub record Unknown (n : ℕ) (rest : List ℕ) : Type 0 where
  pub number : n ≡ 2
  pub tag : ℕ
  pub more : List ℕ
  pub begins : rest ≡ tag ∷ more
  pub not_window : tag ≢ 6
  pub not_range : tag ≢ 7
  pub not_balance : tag ≢ 8

-- the bytes begin with the tag of a window or a range, and are fewer than its twenty; a balance has its tag alone
pub record CutStep (n : ℕ) (rest : List ℕ) : Type 0 where
  pub tag : ℕ
  pub more : List ℕ
  pub begins : rest ≡ tag ∷ more
  pub known : (tag ≡ 6) ⊎ (tag ≡ 7)
  pub cut : Cut 20 n rest

abbrev pub HeadFault : ℕ → List ℕ → Type 0
HeadFault n rest = Cut 7 n rest ⊎ Beyond head_bytes HeadFits HeadWithin n rest

abbrev pub RowFault : ℕ → List ℕ → Type 0
RowFault n rest = Cut 7 n rest ⊎ Beyond row_bytes RowFits RowWithin n rest

abbrev pub TagFault : ℕ → List ℕ → Type 0
TagFault n rest = Unknown n rest ⊎ CutStep n rest

abbrev pub StepFault : ℕ → ℕ → List ℕ → Type 0
StepFault scheme n rest = TagFault n rest ⊎ Beyond step_bytes StepFits (StepWithin scheme) n rest
