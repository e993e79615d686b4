use Rattle.description.specs.Format.{window_bytes}
use Rattle.description.specs.Bounds.{WindowFits}
use Rattle.description.specs.Parts.{FlatWithin}
use Rattle.description.proofs.Values.{granted_or, window_holds}
use Rattle.description.proofs.part.WindowStepPart19.of.Goals as goal

pub returns : goal.returns
returns c =
    let h = window_holds c.args.bytes.now c.fits-bytes c.told-bytes _ _ _ _ _ c.from_be_bytes.ensures c.from_be_bytes-2.ensures c.from_be_bytes-3.ensures c.from_be_bytes-4.ensures c.from_be_bytes-5.ensures in
    rw c.then_some.ensures (granted_or (λ x. x) window_bytes WindowFits FlatWithin c.args.bytes.now c.is_within.result _ h c.is_within.ensures)
