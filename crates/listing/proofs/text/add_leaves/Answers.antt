use Rattle.std.proofs.Common.{◌≡◌, ◌++◌, string_bytes, get_or, rules}
use Rattle.tiling.specs.declared.leaf.Leaf.{Leaf}
use Rattle.listing.specs.Text.{leaf_line}
use Rattle.listing.proofs.Lines.{lines_more, lines_end}
use Rattle.listing.proofs.text.add_leaves.Goals as goal

-- the line that is written is that of the leaf
pub loop-number-preserved : goal.loop-number-preserved
loop-number-preserved c =
    let d : Leaf = record { root = 0; level = 0; place = 0 } in
    let text = string_bytes c.loop-number.text in
    let i = c.loop-number.number-counter in
    let grown : string_bytes c.write.new.self ≡ text ++ leaf_line i (get_or c.args.leaves.now i d) = search rules in
    lines_more text (string_bytes c.write.new.self) _ c.args.leaves.now i d c.loop-number-test.true c.loop-number.invariant grown

pub returns : goal.returns
returns c = lines_end (string_bytes c.loop-number.text) _ c.args.leaves.now c.loop-number.number-counter c.loop-number-test.false c.loop-number.invariant
