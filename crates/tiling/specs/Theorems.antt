-- What the theory of tiling shows, over any model.
use Rattle.std.specs.Prelude.{◌≡◌, ℕ, ◌*◌, ◌^◌, ◌≤◌, true, ◌↔◌, List, [], ◌∷◌, length}
use Rattle.scheme.specs.Scheme.{Model, k}
use Rattle.tiling.specs.declared.leaf.Leaf.{Leaf}
use Rattle.tiling.specs.Cells.{CellOf, Tiles, Among}
use Rattle.tiling.specs.Positions.{Chain, fills, evenly}

-- a list tiles exactly when each leaf starts where the one before it ends, from 0 to the end of the last root
abbrev pub TilingIsChain : Type 0
TilingIsChain = (m : Model) (roots : ℕ) (ls : List Leaf) → Tiles m roots ls ↔ Chain m.w m.D 0 ls (roots * k m ^ m.D)

-- the same by the test that a forest's type carries
abbrev pub TilingIsTest : Type 0
TilingIsTest = (m : Model) (roots : ℕ) (ls : List Leaf) → Tiles m roots ls ↔ (fills m.w m.D roots ls ≡ true)

-- an even cut tiles, has k ^ l leaves to a root, and has as its leaves the cells of level l
abbrev pub EvenCut : Type 0
EvenCut = (m : Model) (roots l : ℕ) → l ≤ m.D →
    Tiles m roots (evenly roots m.w l) × (length (evenly roots m.w l) ≡ roots * k m ^ l) ×
    ((c : Leaf) → Among (evenly roots m.w l) c ↔ (CellOf m roots c × (c.level ≡ l)))

abbrev leaf : ℕ → ℕ → ℕ → Leaf
leaf r l p = record { root = r; level = l; place = p }

-- examples with two children to a cell and depth 3: a root cut into four leaves tiles; without its last leaf, or in another order, it does not
abbrev pub TilingExamples : Type 0
TilingExamples = (m : Model) → m.w ≡ 1 → m.D ≡ 3 →
    Tiles m 1 (leaf 0 2 0 ∷ leaf 0 3 2 ∷ leaf 0 3 3 ∷ leaf 0 1 1 ∷ []) ×
    (Tiles m 1 (leaf 0 2 0 ∷ leaf 0 3 2 ∷ leaf 0 3 3 ∷ []) → ⊥) ×
    (Tiles m 1 (leaf 0 2 0 ∷ leaf 0 3 3 ∷ leaf 0 3 2 ∷ leaf 0 1 1 ∷ []) → ⊥) ×
    (Tiles m 2 (leaf 0 0 0 ∷ leaf 0 0 0 ∷ []) → ⊥)
