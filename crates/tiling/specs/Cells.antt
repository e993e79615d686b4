-- Leaves, the finest places that they hold, and the order along the curve.
use Rattle.std.specs.Prelude.{◌≡◌, ℕ, ◌+◌, ◌-◌, ◌*◌, ◌/◌, ◌^◌, ◌<◌, ◌≤◌, ◌⊎◌, List, length, slice_index_or}
use Rattle.tiling.specs.declared.leaf.Leaf.{Leaf}
use Rattle.scheme.specs.Scheme.{Model, k}

abbrev pub blank : Leaf
blank = record { root = 0; level = 0; place = 0 }

-- how many finest places a cell of level l holds
abbrev pub span : Model → ℕ → ℕ
span m l = k m ^ (m.D - l)

abbrev pub first : Model → Leaf → ℕ
first m c = c.place * span m c.level

-- the cell c holds the finest place q of the root r
abbrev pub Holds : Model → Leaf → ℕ → ℕ → Type 0
Holds m c r q = (c.root ≡ r) × (first m c ≤ q) × (q < first m c + span m c.level)

abbrev pub CellOf : Model → ℕ → Leaf → Type 0
CellOf m roots c = (c.root < roots) × (c.level ≤ m.D) × (c.place < k m ^ c.level)

-- strictly before, along the curve
abbrev pub Before : Model → Leaf → Leaf → Type 0
Before m a b = (a.root < b.root) ⊎ ((a.root ≡ b.root) × (first m a < first m b))

abbrev pub at : List Leaf → ℕ → Leaf
at ls i = slice_index_or ls i blank

pub record Tiles (m : Model) (roots : ℕ) (ls : List Leaf) : Type 0 where
  pub cells : (i : ℕ) → i < length ls → CellOf m roots (at ls i)
  pub order : (i j : ℕ) → i < j → j < length ls → Before m (at ls i) (at ls j)
  pub covered : (r q : ℕ) → r < roots → q < k m ^ m.D → (i : ℕ) × (i < length ls) × Holds m (at ls i) r q
  pub once : (i j r q : ℕ) → i < length ls → j < length ls → Holds m (at ls i) r q → Holds m (at ls j) r q → i ≡ j

-- the cell b lies inside the cell a, which may be b
abbrev pub InsideOf : Model → Leaf → Leaf → Type 0
InsideOf m a b = (a.root ≡ b.root) × (a.level ≤ b.level) × (b.place / k m ^ (b.level - a.level) ≡ a.place)

-- the cell c is one of the list
abbrev pub Among : List Leaf → Leaf → Type 0
Among ls c = (i : ℕ) × (i < length ls) × (at ls i ≡ c)
