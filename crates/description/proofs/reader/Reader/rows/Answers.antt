use Rattle.std.proofs.Common.{inr}
use Rattle.description.specs.Told.{told}
use Rattle.description.proofs.Following.{rows_stop, at_err}
use Rattle.description.proofs.reader.Reader.rows.Goals as goal

pub returns-in_err-joint : goal.returns-in_err-joint
returns-in_err-joint c =
    let h = c.in_err-joint.ensures in
    at_err c.from_residual.result _ _ c.in_err-joint.field-0.0 c.from_residual.ensures.1
    (inr (rows_stop _ _ _ (told c.in_err-joint.field-0.0) c.loop.invariant c.loop-test.true h.0 h.1))
