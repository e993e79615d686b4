use Rattle.std.proofs.Common.{◌≡◌, ◌++◌, drop, string_bytes}
use Rattle.listing.specs.Text.{leaf_lines}
use Rattle.listing.proofs.text.add_leaves.Given as goal

-- the text so far, and the lines of the leaves to come, make the whole
abbrev pub invariant-loop-number : goal.invariant-loop-number
invariant-loop-number l = string_bytes l.text ++ leaf_lines l.number-counter (drop l.number-counter l.leaves) ≡ string_bytes l.initial.text ++ leaf_lines 0 l.leaves
