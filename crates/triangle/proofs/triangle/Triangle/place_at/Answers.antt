use Rattle.models.proofs.TriangleCells.{triangle_undoes}
use Rattle.triangle.proofs.triangle.Triangle.place_at.Goals as goal

pub returns-clause-undoes : goal.returns-clause-undoes
returns-clause-undoes c = triangle_undoes
