-- One leaf's line more.
use Rattle.std.proofs.Common.{◌≡◌, ℕ, ◌+◌, ◌<◌, ◌≤◌, List, [], ◌++◌, length, get_or, drop, sym, ap, ◌∙◌, append_assoc, append-nil, add-one, drop_of_length-le, drop-cons}
use Rattle.tiling.specs.declared.leaf.Leaf.{Leaf}
use Rattle.listing.specs.Text.{leaf_line, leaf_lines}

-- the lines from i on begin with the line of the leaf i
pub lines_here : (xs : List Leaf) (i : ℕ) (d : Leaf) → i < length xs →
    leaf_lines i (drop i xs) ≡ leaf_line i (get_or xs i d) ++ leaf_lines (i + 1) (drop (i + 1) xs)
unfolding leaf_lines
lines_here xs i d h = ap (leaf_lines i) (drop-cons xs i d h) ∙ rw (add-one i)

-- a text that is grown by the line i, and the lines after it
pub lines_more : (text text' whole : List ℕ) (xs : List Leaf) (i : ℕ) (d : Leaf) → i < length xs →
    text ++ leaf_lines i (drop i xs) ≡ whole → text' ≡ text ++ leaf_line i (get_or xs i d) →
    text' ++ leaf_lines (i + 1) (drop (i + 1) xs) ≡ whole
lines_more text text' whole xs i d h inv grown =
    let rest = leaf_lines (i + 1) (drop (i + 1) xs) in
    ap (λ t. t ++ rest) grown ∙ append_assoc text (leaf_line i (get_or xs i d)) rest ∙ ap (λ t. text ++ t) (sym (lines_here xs i d h)) ∙ inv

-- past the last leaf the text is whole
pub lines_end : (text whole : List ℕ) (xs : List Leaf) (i : ℕ) → length xs ≤ i → text ++ leaf_lines i (drop i xs) ≡ whole → text ≡ whole
unfolding leaf_lines
lines_end text whole xs i h inv =
    let e : leaf_lines i (drop i xs) ≡ [] = ap (leaf_lines i) (drop_of_length-le xs h) in
    sym (append-nil text) ∙ ap (λ t. text ++ t) (sym e) ∙ inv
