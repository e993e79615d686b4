use Rattle.models.proofs.Figures.{figures}
use Rattle.models.proofs.figures_stand.Goals as goal

pub returns : goal.returns
returns c = figures
