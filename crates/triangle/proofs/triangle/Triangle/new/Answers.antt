use Rattle.models.proofs.TriangleOnPlan.{triangle_shares, triangle_face_children_are}
use Rattle.triangle.proofs.triangle.Triangle.new.Goals as goal

pub returns : goal.returns
returns c = record { shares = triangle_shares; children = triangle_face_children_are }
