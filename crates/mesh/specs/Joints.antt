-- The joint rows of a mesh: what stands at their ends, which rows are sound, and how a row leads over.
use Rattle.std.specs.Prelude.{◌≡◌, ℕ, ◌<◌, ◌≤◌, ◌⊎◌, List, length, Some, ◌≢◌, slice_index_or}
use Rattle.mesh.specs.declared.joint.Joint.{Joint}
use Rattle.scheme.specs.Scheme.{Model}

-- what is read past the last row
abbrev pub none : Joint
none = record { root = 0; face = 0; other_root = 0; other_face = 0; turn = 0 }

-- row i, counted from 0
abbrev pub row : List Joint → ℕ → Joint
row js i = slice_index_or js i none

-- a joint row, read either way
abbrev pub Joins : Joint → ℕ → ℕ → ℕ → ℕ → Type 0
Joins j r a r' b =
    ((j.root ≡ r) × (j.face ≡ a) × (j.other_root ≡ r') × (j.other_face ≡ b)) ⊎
    ((j.other_root ≡ r) × (j.other_face ≡ a) × (j.root ≡ r') × (j.face ≡ b))

-- a joint row has the face a of the root r at one of its ends
abbrev pub Ends : Joint → ℕ → ℕ → Type 0
Ends j r a = ((j.root ≡ r) × (j.face ≡ a)) ⊎ ((j.other_root ≡ r) × (j.other_face ≡ a))

-- 1 to 256 roots, and at most 1,024 joint rows
abbrev pub CountsIn : ℕ → List Joint → Type 0
CountsIn roots js = (1 ≤ roots) × (roots ≤ 256) × (length js ≤ 1024)

-- a root, a face or the turn of a row is not there
abbrev pub Absent : Model → ℕ → Joint → Type 0
Absent m roots j = (roots ≤ j.root) ⊎ (roots ≤ j.other_root) ⊎ (m.F ≤ j.face) ⊎ (m.F ≤ j.other_face) ⊎ (1 < j.turn)

-- the sorts of its two faces differ
abbrev pub Differ : Model → Joint → Type 0
Differ m j = m.sort j.face ≡ m.sort j.other_face → ⊥

-- a row joins a face to itself
abbrev pub Itself : Joint → Type 0
Itself j = (j.root ≡ j.other_root) × (j.face ≡ j.other_face)

-- a row before row i has the face a of the root r at an end
abbrev pub Before : List Joint → ℕ → ℕ → ℕ → Type 0
Before js i r a = (i' : ℕ) × (i' < i) × Ends (row js i') r a

-- row i joins a face to itself, or one of its root faces stands at an end of an earlier row
abbrev pub Taken : List Joint → ℕ → Type 0
Taken js i = Itself (row js i) ⊎ Before js i (row js i).root (row js i).face ⊎ Before js i (row js i).other_root (row js i).other_face

-- row i has none of the three faults
pub record Sound (m : Model) (roots : ℕ) (js : List Joint) (i : ℕ) : Type 0 where
  pub present : Absent m roots (row js i) → ⊥
  pub alike : Differ m (row js i) → ⊥
  pub free : Taken js i → ⊥

-- a row in bounds, between two distinct root faces of one sort
pub record RowIn (m : Model) (roots : ℕ) (j : Joint) : Type 0 where
  pub one : (j.root < roots) × (j.face < m.F)
  pub other : (j.other_root < roots) × (j.other_face < m.F)
  pub turns : j.turn ≤ 1
  pub sorts : m.sort j.face ≡ m.sort j.other_face
  pub distinct : j.root ≡ j.other_root → j.face ≢ j.other_face

-- the joint rows of a mesh: each in bounds, and no root face at two ends
pub record Joined (m : Model) (roots : ℕ) (js : List Joint) : Type 0 where
  pub rows : (i : ℕ) → i < length js → RowIn m roots (row js i)
  pub once : (i i' r a : ℕ) → i < length js → i' < length js → Ends (row js i) r a → Ends (row js i') r a → i ≡ i'

-- a row's turn takes the edge number n of the face a to n' on the other side
abbrev pub Turns : Model → Joint → ℕ → ℕ → ℕ → ℕ → Type 0
Turns m j a l n n' = ((j.turn ≡ 0) × (n' ≡ n)) ⊎ ((j.turn ≡ 1) × (s : ℕ) × (m.sort a ≡ Some s) × (m.turned s l n ≡ Some n'))

-- over a joint row, from the edge number n of the face a of the root r to n' of b of r'
pub record Over (m : Model) (js : List Joint) (l r a n r' b n' : ℕ) : Type 0 where
  pub at_row : ℕ
  pub is_row : at_row < length js
  pub joins : Joins (row js at_row) r a r' b
  pub turns : Turns m (row js at_row) a l n n'
