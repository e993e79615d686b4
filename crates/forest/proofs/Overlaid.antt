-- A list whose front is written anew.
use Rattle.std.proofs.Common.{ℕ, ◌-◌, ◌≤◌, List, ◌++◌, length, take, drop, ap, ◌∙◌, arith, length-drop}
use Rattle.std.proofs.lemmas.List.{drop-append-le, take-append-le}
use Rattle.tiling.specs.declared.leaf.Leaf.{Leaf}
use Rattle.tiling.specs.Positions.{Blank}

-- what is blank in the front stays so with a rest behind it
pub blank_before : (front rest : List Leaf) (n cap : ℕ) → n ≤ cap → cap ≤ length front → Blank front n cap → Blank (front ++ rest) n cap
blank_before front rest n cap le fits b =
    ap (take (cap - n)) (drop-append-le n front rest (omega arith)) ∙ take-append-le (cap - n) (drop n front) rest (omega (arith, length-drop n front)) ∙ b
