-- What a reader answers where a part should begin.
use Rattle.std.specs.Prelude.{◌≡◌, ℕ, ◌+◌, ◌<◌, List, [], ◌++◌, length, Option, Result, MatchOption, MatchResult, All}
use Rattle.std.specs.List.{flat_map}
use Rattle.mesh.specs.declared.joint.Joint.{Joint}
use Rattle.description.specs.declared.head.Head as code
use Rattle.description.specs.declared.step.Step.{Step}
use Rattle.description.specs.declared.step.WindowStep.{WindowStep}
use Rattle.description.specs.Format.{Head, scheme_of, row_bytes, step_bytes}
use Rattle.description.specs.Bounds.{RowWithin, WindowWithin, StepWithin}
use Rattle.description.specs.Faults.{RowFault, StepFault}
use Rattle.description.specs.declared.reader.Reader.{Reader}
use Rattle.description.specs.declared.refusal.Refusal.{Refusal}
use Rattle.description.specs.Told.{told}
use Rattle.description.specs.Passing.{left, Passed}

-- a head's values, as its bytes hold them
abbrev pub held : code.Head → Head
held h = record { scheme = scheme_of h.shape; roots = h.roots; level = h.level; limit = h.limit; rows = h.rows }

-- a window that is granted on the last scheme of the plane, and so on each of them
abbrev pub FlatWithin : WindowStep → Type 0
FlatWithin w = WindowWithin 3 w

-- the part, which it has passed, or the fault of the bytes that are left, which is told at this place
abbrev pub PartRead : {V : Type 0} → (V → List ℕ) → (V → Type 0) → (ℕ → List ℕ → Type 0) → ℕ → Reader → Reader → Result V Refusal → Type 0
PartRead bytes Good Fault at r r' result =
    MatchResult result (λ v. Good v × Passed r r' (bytes v)) (λ e. ((told e).1 ≡ at) × Fault (told e).0 (left r))

-- nothing at the end of the input, a step, which it has passed, or the fault of the bytes that are left
abbrev pub StepRead : ℕ → Reader → Reader → Result (Option Step) Refusal → Type 0
StepRead scheme r r' result =
    MatchResult result
    (λ step. MatchOption step (left r ≡ []) (λ s. StepWithin scheme s × Passed r r' (step_bytes s)))
    (λ e. ((told e).1 ≡ r.at) × StepFault scheme (told e).0 (left r))

-- all the rows that the head promised, which it has passed
pub record RowsRead (count : ℕ) (r r' : Reader) (rows : List Joint) : Type 0 where
  pub count_is : length rows ≡ count
  pub within : All RowWithin rows
  pub passed : Passed r r' (flat_map row_bytes rows)

-- all the steps to the end of the input
pub record StepsRead (scheme : ℕ) (r : Reader) (steps : List Step) : Type 0 where
  pub within : All (StepWithin scheme) steps
  pub split : left r ≡ flat_map step_bytes steps

-- some parts of one kind, and then bytes that are at fault
pub record Stopped {V : Type 0} (bytes : V → List ℕ) (Good : V → Type 0) (Fault : ℕ → List ℕ → Type 0) (r : Reader) (told_at : ℕ × ℕ) : Type 0 where
  pub done : List V
  pub rest : List ℕ
  pub within : All Good done
  pub split : left r ≡ flat_map bytes done ++ rest
  pub place : told_at.1 ≡ r.at + length (flat_map bytes done)
  pub fault : Fault told_at.0 rest

-- fewer rows than the head promised
pub record RowsStopped (count : ℕ) (r : Reader) (told_at : ℕ × ℕ) : Type 0 where
  pub stop : Stopped row_bytes RowWithin RowFault r told_at
  pub fewer : length stop.done < count

-- some steps, and then bytes that are at fault as a step
abbrev pub StepsStopped : ℕ → Reader → ℕ × ℕ → Type 0
StepsStopped scheme r told_at = Stopped step_bytes (StepWithin scheme) (StepFault scheme) r told_at
