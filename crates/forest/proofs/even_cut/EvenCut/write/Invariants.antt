use Rattle.std.proofs.Common.{◌≡◌, ℕ, ◌<◌, get_or}
use Rattle.tiling.specs.Cells.{blank}
use Rattle.tiling.specs.Positions.{even}
use Rattle.forest.proofs.even_cut.EvenCut.write.Given as goal

-- the leaves so far are written
abbrev pub invariant-loop-i : goal.invariant-loop-i
invariant-loop-i l = (k : ℕ) → k < l.i → get_or l.records k blank ≡ even l.self.width l.self.level k
