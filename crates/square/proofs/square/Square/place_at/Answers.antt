use Rattle.models.proofs.SquareCells.{square_undoes}
use Rattle.square.proofs.square.Square.place_at.Goals as goal

pub returns-clause-undoes : goal.returns-clause-undoes
returns-clause-undoes c = square_undoes
