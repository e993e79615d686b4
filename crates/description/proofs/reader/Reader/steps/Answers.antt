use Rattle.description.proofs.Following.{step_shorter}
use Rattle.description.proofs.reader.Reader.steps.Goals as goal

pub loop-steps-smaller : goal.loop-steps-smaller
loop-steps-smaller c = let h = rw c.in-Some.is at c.in_ok-step.ensures in step_shorter {r' = c.step.new.self} _ h.1
