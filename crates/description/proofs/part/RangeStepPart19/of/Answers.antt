use Rattle.description.specs.Format.{range_bytes}
use Rattle.description.specs.Bounds.{RangeFits, RangeWithin}
use Rattle.description.proofs.Values.{granted_or, range_holds}
use Rattle.description.proofs.part.RangeStepPart19.of.Goals as goal

pub returns : goal.returns
returns c =
    let h = range_holds c.args.bytes.now c.fits-bytes c.told-bytes _ _ _ c.from_be_bytes.ensures c.from_be_bytes-2.ensures c.from_be_bytes-3.ensures in
    rw c.then_some.ensures (granted_or (λ x. x) range_bytes RangeFits RangeWithin c.args.bytes.now c.is_within.result _ h c.is_within.ensures)
