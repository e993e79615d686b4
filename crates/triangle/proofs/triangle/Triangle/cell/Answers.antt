use Rattle.models.proofs.TriangleCells.{triangle_order}
use Rattle.triangle.proofs.triangle.Triangle.cell.Goals as goal

pub returns-clause-order : goal.returns-clause-order
returns-clause-order c = triangle_order
