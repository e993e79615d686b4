use Rattle.std.proofs.Common.{length, vec_items}
use Rattle.std.specs.List.{All, flat_map}
use Rattle.description.specs.Format.{scheme_of, step_bytes}
use Rattle.description.specs.Bounds.{StepWithin}
use Rattle.description.specs.Passing.{left, Passed}
use Rattle.description.proofs.reader.Reader.steps.Given as goal

-- the steps so far
abbrev pub invariant-loop-steps : goal.invariant-loop-steps
invariant-loop-steps l = All (StepWithin (scheme_of l.shape)) (vec_items l.steps) × Passed l.initial.self l.self (flat_map step_bytes (vec_items l.steps))

-- each step takes a byte at least
abbrev pub decreases-loop-steps : goal.decreases-loop-steps
decreases-loop-steps l = length (left l.self)
