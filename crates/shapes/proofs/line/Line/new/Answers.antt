use Rattle.std.proofs.Common.{arith}
use Rattle.shapes.specs.LineLaws.{all_edges_break_the_laws}
use Rattle.shapes.specs.LineOnPlan.{line_shares, line_face_child_keeps}
use Rattle.shapes.proofs.line.Line.new.Goals as goal

pub returns-clause-shares : goal.returns-clause-shares
returns-clause-shares c = line_shares 18 (omega arith)

pub returns-clause-keeps : goal.returns-clause-keeps
returns-clause-keeps c = line_face_child_keeps 18 (omega arith)

pub returns-clause-counterexample : goal.returns-clause-counterexample
returns-clause-counterexample c = all_edges_break_the_laws
