use Rattle.std.proofs.Common.{sym, ◌∙◌}
use Rattle.models.proofs.SquareCells.{y_as_x}
use Rattle.square.proofs.morton.y_of.Goals as goal

pub returns-clause-value : goal.returns-clause-value
returns-clause-value c = c.x_of.ensures.value ∙ sym (y_as_x c.args.place.level.number c.args.place.number)
