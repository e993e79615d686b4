use Rattle.std.proofs.Common.{ℕ, ◌<◌}
use Rattle.mesh.specs.Joints.{Sound}
use Rattle.mesh.proofs.mesh.Mesh.check_rows.Given as goal

-- every row so far is sound
abbrev pub invariant-loop-i : goal.invariant-loop-i
invariant-loop-i g l = (k : ℕ) → k < l.i → Sound (g.S.Scheme.meaning l.scheme) l.self.roots l.self.joints.items k
