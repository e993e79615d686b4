use Rattle.models.proofs.SquareCells.{square_bits}
use Rattle.square.proofs.square.Square.cell.Goals as goal

pub returns-clause-bits : goal.returns-clause-bits
returns-clause-bits c = square_bits
