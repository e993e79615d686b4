-- Crossing a joint: from an edge number of a root face to the one that lies against it.
use Rattle.std.specs.Prelude.{◌≡◌, ℕ, ◌<◌, ◌⊎◌, ◌↔◌, List, length, Some, None, Option, ◌≢◌}
use Rattle.mesh.specs.declared.joint.Joint.{Joint}
use Rattle.mesh.specs.Joints.{row, Ends, Joined, Turns, Over}
use Rattle.scheme.specs.Scheme.{Model, EdgeIn, Lawful}

-- a row leads from the face a of r to b of r': from its first end if that is (r, a), else from its other end
abbrev pub Passes : Joint → ℕ → ℕ → ℕ → ℕ → Type 0
Passes j r a r' b =
    ((j.root ≡ r) × (j.face ≡ a) × (j.other_root ≡ r') × (j.other_face ≡ b)) ⊎
    ((j.root ≡ r → j.face ≢ a) × (j.other_root ≡ r) × (j.other_face ≡ a) × (j.root ≡ r') × (j.face ≡ b))

-- no row before row i has the face a of the root r at an end
abbrev pub NoneBefore : List Joint → ℕ → ℕ → ℕ → Type 0
NoneBefore js i r a = (i' : ℕ) → i' < i → Ends (row js i') r a → ⊥

-- the first row with the face a of the root r at an end, if there is one
abbrev pub FirstRow : List Joint → ℕ → ℕ → Option ℕ → Type 0
FirstRow js r a (Some i) = (i < length js) × Ends (row js i) r a × NoneBefore js i r a
FirstRow js r a None = NoneBefore js (length js) r a

-- the edge number is there, and the first row with its root face at an end leads over
pub record Crosses (m : Model) (js : List Joint) (l r a n r' b n' : ℕ) : Type 0 where
  pub there : EdgeIn m l a n
  pub at_row : ℕ
  pub is_row : at_row < length js
  pub first : NoneBefore js at_row r a
  pub passes : Passes (row js at_row) r a r' b
  pub turns : Turns m (row js at_row) a l n n'

-- an answer: where the crossing leads, or that it leads nowhere
abbrev pub Crossed : Model → List Joint → ℕ → ℕ → ℕ × ℕ → Option (ℕ × (ℕ × ℕ)) → Type 0
Crossed m js l r (a, n) (Some (r', (b, n'))) = Crosses m js l r a n r' b n'
Crossed m js l r (a, n) None = (r' b n' : ℕ) → Crosses m js l r a n r' b n' → ⊥

-- the edge number on the other side, or that there is none
abbrev pub TurnedOver : Model → Joint → ℕ → ℕ → ℕ → Option ℕ → Type 0
TurnedOver m j a l n (Some n') = Turns m j a l n n'
TurnedOver m j a l n None = (n' : ℕ) → Turns m j a l n n' → ⊥

-- crossing leads to one place at most
abbrev pub OneCrossing : Type 0
OneCrossing = (m : Model) (js : List Joint) (l r a n r' b n' r'' b' n'' : ℕ) →
    Crosses m js l r a n r' b n' → Crosses m js l r a n r'' b' n'' → (r' ≡ r'') × (b ≡ b') × (n' ≡ n'')

-- and in a joined mesh it leads back
abbrev pub LeadsBack : Type 0
LeadsBack = (m : Model) → Lawful m → (roots : ℕ) (js : List Joint) → Joined m roots js → (l r a n r' b n' : ℕ) →
    Crosses m js l r a n r' b n' → Crosses m js l r' b n' r a n

-- there it goes over any row that joins the two faces
abbrev pub CrossesOver : Type 0
CrossesOver = (m : Model) → Lawful m → (roots : ℕ) (js : List Joint) → Joined m roots js → (l r a n r' b n' : ℕ) →
    Crosses m js l r a n r' b n' ↔ (EdgeIn m l a n × Over m js l r a n r' b n')

-- and only the rim leads nowhere: it leads over from every edge number of a root face that a row has at an end
abbrev pub LeadsOver : Type 0
LeadsOver = (m : Model) → Lawful m → (roots : ℕ) (js : List Joint) → Joined m roots js → (l r a n i : ℕ) →
    EdgeIn m l a n → i < length js → Ends (row js i) r a → (r' : ℕ) × (b : ℕ) × (n' : ℕ) × Crosses m js l r a n r' b n'
