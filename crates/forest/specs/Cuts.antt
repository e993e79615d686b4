-- What an even cut of all roots gives.
use Rattle.std.specs.Prelude.{ℕ, ◌*◌, ◌^◌, List}
use Rattle.tiling.specs.declared.leaf.Leaf.{Leaf}
use Rattle.tiling.specs.Positions.{evenly}
use Rattle.forest.specs.declared.even_cut.EvenCut.{EvenCut}

-- how many cells a root has
abbrev pub cell_count : EvenCut → ℕ
cell_count cut = 2 ^ (cut.width * cut.level)

-- how many leaves all roots have, and these leaves in curve order
abbrev pub leaf_count : EvenCut → ℕ
leaf_count cut = cut.roots * cell_count cut

abbrev pub cut_leaves : EvenCut → List Leaf
cut_leaves cut = evenly cut.roots cut.width cut.level
