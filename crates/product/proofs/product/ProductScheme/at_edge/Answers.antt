use Rattle.std.proofs.Common.{◌-◌, arith}
use Rattle.product.proofs.Few.{edge_few}
use Rattle.product.proofs.product.ProductScheme.at_edge.Goals as goal

-- at most 4 faces of either
pub overflow_add-result : goal.overflow_add-result
overflow_add-result g c =
    let s = c.args.self.now.second in
    let few = edge_few (g.B.Scheme.meaning s) (g.met.B.Scheme.lawful s) (g.met.B.Flat.flat s)
    c.args.level (c.args.face - c.sides-faces.result) c.in_ok-first-2.edge c.in_ok-second.second c.in_ok-second.its_face c.in_ok-second.ensures in
    omega (arith, few, c.sides-faces.ensures.bounds)
