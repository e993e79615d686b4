-- Parts of one kind, one after another.
use Rattle.std.proofs.Common.{◌≡◌, ℕ, ◌<◌, List, length, IsErrAnd, Result, ◌∙◌, arith, MatchResult}
use Rattle.std.proofs.lemmas.Result.{err_from_is_err_and}
use Rattle.mesh.specs.declared.joint.Joint.{Joint}
use Rattle.description.specs.declared.reader.Reader.{Reader}
use Rattle.description.specs.declared.step.Step.{Step}
use Rattle.description.specs.declared.step.Step.TheVariants.{Window, Range, Balance}
use Rattle.description.specs.Format.{be, step_bytes}
use Rattle.description.specs.Faults.{RowFault}
use Rattle.description.specs.Passing.{left, Passed}
use Rattle.description.specs.Parts.{RowsRead, RowsStopped}
use Rattle.description.proofs.Passage.{fewer}

-- the rows so far, and then a fault
pub rows_stop : (n count : ℕ) (xs : List Joint) {r r' : Reader} (e : ℕ × ℕ) → RowsRead n r r' xs → n < count → e.1 ≡ r'.at → RowFault e.0 (left r') → RowsStopped count r e
rows_stop n count xs {r} {r'} e so lt place fault =
    record {
      stop = record { done = xs; rest = left r'; within = so.within; split = so.passed.split; place = place ∙ so.passed.next; fault = fault };
      fewer = omega (arith, so.count_is);
    }

-- what the exit of a `?` hands on
pub at_err : {T E : Type 0} (r : Result T E) (P : T → Type 0) (Q : E → Type 0) (e : E) → IsErrAnd r (λ y. y ≡ e) → Q e → MatchResult r P Q
at_err r P Q e by q =
    let p = err_from_is_err_and r by in
    rw (p.1, p.2) q

-- a step has a byte at least
pub step_some : (s : Step) → 0 < length (step_bytes s)
unfolding step_bytes be
step_some (Window w) = omega arith
step_some (Range r) = omega arith
step_some Balance = omega arith

pub step_shorter : {r r' : Reader} (s : Step) → Passed r r' (step_bytes s) → length (left r') < length (left r)
step_shorter s p = omega (arith, fewer p, step_some s)
