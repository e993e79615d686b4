use Rattle.std.proofs.Common.{◌-◌, ◌<◌, arith}
use Rattle.product.proofs.Few.{child_few}
use Rattle.product.proofs.product.ProductScheme.face_child.Given.{Over}
use Rattle.product.proofs.product.ProductScheme.face_child.Goals as goal
use Rattle.product.proofs.product.ProductScheme.face_child.Goals.{In_ok-child-2}

pub pair-requires : goal.pair-requires
pair-requires g c =
    let s = c.args.self.now.first in
    let few = child_few (g.A.Scheme.meaning s) (g.met.A.Scheme.lawful s) (g.met.A.Flat.flat s)
    c.args.level c.in_ok-first.first c.args.face c.in_ok-edge.edge c.in_ok-child.child c.in_ok-child.its_face c.in_ok-child.ensures in
    (omega (arith, few.0), omega (arith, c.in_ok-edge.ensures.few.1))

-- the child of the second factor, and its face
second_few : (g : Over) (c : In_ok-child-2 g) → (c.in_ok-child-2.child < 4) × (c.in_ok-child-2.its_face < 4)
second_few g c =
    let s = c.args.self.now.second in
    child_few (g.B.Scheme.meaning s) (g.met.B.Scheme.lawful s) (g.met.B.Flat.flat s)
    c.args.level c.in_ok-first.second (c.args.face - c.sides-faces.result) c.in_ok-digit.edge c.in_ok-child-2.child c.in_ok-child-2.its_face c.in_ok-child-2.ensures

pub pair-requires-else-face-faces : goal.pair-requires-else-face-faces
pair-requires-else-face-faces g c = (omega (arith, c.in_ok-digit.ensures.few.0), omega (arith, (second_few g c).0))

-- at most 4 faces of either
pub overflow_add-result : goal.overflow_add-result
overflow_add-result g c = omega (arith, (second_few g (goal.at.overflow_add-result g c).In_ok-child-2).1, c.sides-faces.ensures.bounds)
