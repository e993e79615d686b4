use Rattle.description.specs.Format.{row_bytes}
use Rattle.description.specs.Bounds.{RowFits, RowWithin}
use Rattle.description.proofs.Values.{granted_or, row_holds}
use Rattle.description.proofs.part.JointPart7.of.Goals as goal

pub returns : goal.returns
returns c =
    let h = row_holds c.args.bytes.now c.fits-bytes c.told-bytes _ _ c.from_be_bytes.ensures c.from_be_bytes-2.ensures in
    rw c.then_some.ensures (granted_or (λ x. x) row_bytes RowFits RowWithin c.args.bytes.now c.is_row_within.result _ h c.is_row_within.ensures)
