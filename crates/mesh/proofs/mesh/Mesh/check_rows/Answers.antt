use Rattle.std.proofs.Common.{below_more}
use Rattle.mesh.proofs.mesh.Mesh.check_rows.Goals as goal

pub loop-i-preserved : goal.loop-i-preserved
loop-i-preserved g c = below_more _ _ c.loop-i.invariant c.in_ok-check_row.ensures
