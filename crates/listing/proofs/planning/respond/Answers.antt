use Rattle.listing.proofs.OneText.{one_text}
use Rattle.listing.proofs.planning.respond.Goals as goal

pub returns : goal.returns
returns c = record { answers = c.read_and_plant.ensures; one = one_text }
