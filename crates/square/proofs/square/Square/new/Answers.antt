use Rattle.models.proofs.SquareOnPlan.{square_shares, square_face_children_are}
use Rattle.square.proofs.square.Square.new.Goals as goal

pub returns : goal.returns
returns c = record { shares = square_shares; children = square_face_children_are }
