-- A factor's crossing, made the product's.
use Rattle.std.specs.Prelude.{◌≡◌, ℕ, ◌+◌}
use Rattle.scheme.specs.declared.crossing.Crossing.{Crossing}
use Rattle.scheme.specs.declared.crossing.Crossing.TheVariants.{Inside, Edge}

-- the face that a crossing names
abbrev pub face_of : Crossing → ℕ
face_of (Inside (q, g)) = g
face_of (Edge g n) = g

-- the place or the edge number becomes what the relation says, and the face comes after others
abbrev pub Carried : (ℕ → ℕ → Type 0) → (ℕ → ℕ → Type 0) → ℕ → Crossing → Crossing → Type 0
Carried place edge before (Inside (q, g)) (Inside (q', g')) = place q q' × (g' ≡ before + g)
Carried place edge before (Edge g n) (Edge g' n') = edge n n' × (g' ≡ before + g)
Carried place edge before (Inside c) (Edge g' n') = ⊥
Carried place edge before (Edge g n) (Inside c') = ⊥
