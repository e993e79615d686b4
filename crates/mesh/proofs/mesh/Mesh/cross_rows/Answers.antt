use Rattle.mesh.proofs.Leading.{no_turn}
use Rattle.mesh.proofs.mesh.Mesh.cross_rows.Goals as goal

pub returns-in_err-number : goal.returns-in_err-number
returns-in_err-number g c =
    let m = g.S.Scheme.meaning c.args.scheme.now in
    let first = c.in_ok-joint.ensures in
    let nowhere = no_turn m c.as_slice.result.now c.args.level c.args.root c.args.edge.0 c.args.edge.1 first.0 first.1 (rw first.2 at c.in_err-number.ensures) in
    rw (c.from_residual-in_err-number.ensures, ← c.as_slice.ensures.value) nowhere
