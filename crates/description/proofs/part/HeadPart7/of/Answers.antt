use Rattle.std.proofs.Common.{sym, refl, ◌∙◌}
use Rattle.description.specs.Format.{head_bytes}
use Rattle.description.specs.Bounds.{HeadFits, HeadWithin}
use Rattle.description.specs.Parts.{held}
use Rattle.description.proofs.Values.{outside, granted_or, decoded, undecoded, no_scheme, head_holds}
use Rattle.description.proofs.part.HeadPart7.of.Goals as goal

pub returns-in_err-ok : goal.returns-in_err-ok
returns-in_err-ok c =
    let h = head_holds c.args.bytes.now c.fits-bytes c.told-bytes _ _ _ refl refl refl in
    let none = undecoded _ c.try_from.result c.try_from.ensures (sym c.ok.ensures.value ∙ c.in_err-ok.was) in
    rw c.from_residual.ensures (outside head_bytes HeadFits HeadWithin c.args.bytes.now _ h (no_scheme _ none))

pub returns : goal.returns
returns c =
    let scheme = decoded _ c.try_from.result c.in_ok-ok.field-0 c.try_from.ensures c.in_ok-ok.ensures.value in
    let h = head_holds c.args.bytes.now c.fits-bytes c.told-bytes _ _ _ scheme c.from_be_bytes.ensures c.from_be_bytes-2.ensures in
    rw c.then_some.ensures (granted_or held head_bytes HeadFits HeadWithin c.args.bytes.now c.is_within.result _ h (λ _. c.is_within.ensures))
