-- Leaves along the curve, by the finest places that they hold, counted over all roots. The functions are over the width w and
-- the depth D, in powers of 2, as code computes them.
use Rattle.std.specs.Prelude.{◌≡◌, ℕ, ◌+◌, ◌-◌, ◌*◌, ◌/◌, ◌%◌, ◌^◌, ◌<◌, ◌≤◌, Bool, ◌&&◌, List, [], ◌∷◌, map, take, drop, replicate, ◌==◌, nat_le, nat_lt}
use Rattle.std.specs.List.{range_with_len}
use Rattle.tiling.specs.declared.leaf.Leaf.{Leaf}
use Rattle.tiling.specs.Cells.{blank}

-- how many finest places a cell of level l holds
abbrev pub size : ℕ → ℕ → ℕ → ℕ
size w D lev = 2 ^ (w * (D - lev))

-- where a cell starts, counted over all roots
abbrev pub start : ℕ → ℕ → Leaf → ℕ
start w D c = c.root * 2 ^ (w * D) + c.place * size w D c.level

abbrev pub Cell : ℕ → ℕ → Leaf → Type 0
Cell w D c = (c.level ≤ D) × (c.place < 2 ^ (w * c.level))

-- each leaf starts where the one before it ends, from s to e
abbrev pub Chain : ℕ → ℕ → ℕ → List Leaf → ℕ → Type 0
Chain w D s [] e = s ≡ e
Chain w D s (c ∷ cs) e = (start w D c ≡ s) × Cell w D c × Chain w D (s + size w D c.level) cs e

-- the same as a test
abbrev pub chained : ℕ → ℕ → ℕ → List Leaf → ℕ → Bool
chained w D s [] e = s == e
chained w D s (c ∷ cs) e = start w D c == s && (nat_le c.level D && (nat_lt c.place (2 ^ (w * c.level)) && chained w D (s + size w D c.level) cs e))

-- a chain through all roots, and its test
abbrev pub Fills : ℕ → ℕ → ℕ → List Leaf → Type 0
Fills w D roots ls = Chain w D 0 ls (roots * 2 ^ (w * D))

abbrev pub fills : ℕ → ℕ → ℕ → List Leaf → Bool
fills w D roots ls = chained w D 0 ls (roots * 2 ^ (w * D))

-- the numbers that a scheme and a forest may have
abbrev pub Bounds : ℕ → ℕ → ℕ → Type 0
Bounds w D roots = (1 ≤ w) × (w ≤ 4) × (D ≤ 18) × (w * D ≤ 54) × (roots ≤ 256)

-- the leaf i where every root is cut to level l, and all of these leaves
abbrev pub even : ℕ → ℕ → ℕ → Leaf
even w l i = record { root = i / 2 ^ (w * l); level = l; place = i % 2 ^ (w * l) }

abbrev pub evenly : ℕ → ℕ → ℕ → List Leaf
evenly roots w l = map (even w l) (range_with_len 0 (roots * 2 ^ (w * l)))

-- the cell c holds the finest place g, counted over all roots
abbrev pub Spans : ℕ → ℕ → Leaf → ℕ → Type 0
Spans w D c g = (start w D c ≤ g) × (g < start w D c + size w D c.level)

-- the records from n up to the cap are blank
abbrev pub Blank : List Leaf → ℕ → ℕ → Type 0
Blank xs n cap = take (cap - n) (drop n xs) ≡ replicate (cap - n) blank
