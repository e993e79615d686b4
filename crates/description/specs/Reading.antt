-- What reading a list of bytes comes to: a description that they are the bytes of, or what is at fault first.
use Rattle.std.specs.Prelude.{◌≡◌, ℕ, ◌<◌, ◌≤◌, ◌⊎◌, List, ◌++◌, length, All}
use Rattle.std.specs.List.{flat_map}
use Rattle.mesh.specs.declared.joint.Joint.{Joint}
use Rattle.description.specs.declared.step.Step.{Step}
use Rattle.description.specs.Format.{Head, Contents, head_of, encoded, head_bytes, row_bytes, step_bytes}
use Rattle.description.specs.Bounds.{HeadWithin, RowWithin, StepWithin}
use Rattle.description.specs.Faults.{HeadFault, RowFault, StepFault}

-- a description's contents, or a refusal's number and the place that it names
pub data Answer : Type 0 where
  granted : Contents → Answer
  refused : ℕ → ℕ → Answer

-- the bytes are those of a description whose values are all within their bounds
pub record Granted (bytes : List ℕ) (c : Contents) : Type 0 where
  pub short : length bytes ≤ 8192
  pub head : HeadWithin (head_of c)
  pub rows : All RowWithin c.joints
  pub steps : All (StepWithin c.scheme) c.steps
  pub whole : bytes ≡ encoded c

pub record OverLong (bytes : List ℕ) (n at : ℕ) : Type 0 where
  pub long : 8192 < length bytes
  pub number : n ≡ 5
  pub place : at ≡ 0

pub record AtHead (bytes : List ℕ) (n at : ℕ) : Type 0 where
  pub short : length bytes ≤ 8192
  pub place : at ≡ 0
  pub fault : HeadFault n bytes

-- a head and some of its rows, all within their bounds, and then bytes that are at fault as a row
pub record AtRow (bytes : List ℕ) (n at : ℕ) : Type 0 where
  pub short : length bytes ≤ 8192
  pub head : Head
  pub rows : List Joint
  pub rest : List ℕ
  pub head_within : HeadWithin head
  pub rows_within : All RowWithin rows
  pub fewer : length rows < head.rows
  pub whole : bytes ≡ head_bytes head ++ flat_map row_bytes rows ++ rest
  pub place : at ≡ length (head_bytes head ++ flat_map row_bytes rows)
  pub fault : RowFault n rest

-- a head, all its rows and some steps, all within their bounds, and then bytes that are at fault as a step
pub record AtStep (bytes : List ℕ) (n at : ℕ) : Type 0 where
  pub short : length bytes ≤ 8192
  pub head : Head
  pub rows : List Joint
  pub steps : List Step
  pub rest : List ℕ
  pub head_within : HeadWithin head
  pub rows_within : All RowWithin rows
  pub all_rows : length rows ≡ head.rows
  pub steps_within : All (StepWithin head.scheme) steps
  pub whole : bytes ≡ head_bytes head ++ flat_map row_bytes rows ++ flat_map step_bytes steps ++ rest
  pub place : at ≡ length (head_bytes head ++ flat_map row_bytes rows ++ flat_map step_bytes steps)
  pub fault : StepFault head.scheme n rest

abbrev pub Reads : List ℕ → Answer → Type 0
Reads bytes (granted c) = Granted bytes c
Reads bytes (refused n at) = OverLong bytes n at ⊎ (AtHead bytes n at ⊎ (AtRow bytes n at ⊎ AtStep bytes n at))
