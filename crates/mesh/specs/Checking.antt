-- What the check of a mesh answers: the first fault, by number and place.
use Rattle.std.specs.Prelude.{◌≡◌, ℕ, suc, ◌<◌, ◌⊎◌, ◌↔◌, List, length, Ok, Err, Result}
use Rattle.mesh.specs.declared.joint.Joint.{Joint}
use Rattle.mesh.specs.declared.fault.MeshFault.{MeshFault}
use Rattle.mesh.specs.Faults.{told}
use Rattle.mesh.specs.Joints.{row, CountsIn, Absent, Differ, Taken, Sound, Joined}
use Rattle.scheme.specs.Scheme.{Model}

-- the fault with this number is the first that row i has: 7, then 8, then 9
abbrev pub Faulty : Model → ℕ → List Joint → ℕ → ℕ → Type 0
Faulty m roots js i number =
    ((number ≡ 7) × Absent m roots (row js i)) ⊎
    ((number ≡ 8) × (Absent m roots (row js i) → ⊥) × Differ m (row js i)) ⊎
    ((number ≡ 9) × (Absent m roots (row js i) → ⊥) × (Differ m (row js i) → ⊥) × Taken js i)

-- the place counts the first row that is not sound from 1, and the number is its fault
pub record FirstFault (m : Model) (roots : ℕ) (js : List Joint) (number place : ℕ) : Type 0 where
  pub counts : CountsIn roots js
  pub i : ℕ
  pub is_row : i < length js
  pub counted : place ≡ suc i
  pub before : (i' : ℕ) → i' < i → Sound m roots js i'
  pub faulty : Faulty m roots js i number

-- a refusal by number and place: 6 at 0 for the counts, else the first fault of the first row that has one
abbrev pub Refused : Model → ℕ → List Joint → ℕ × ℕ → Type 0
Refused m roots js t = ((t.0 ≡ 6) × (t.1 ≡ 0) × (CountsIn roots js → ⊥)) ⊎ FirstFault m roots js t.0 t.1

abbrev pub AllSound : Model → ℕ → List Joint → Type 0
AllSound m roots js = (i : ℕ) → i < length js → Sound m roots js i

-- the answer of the check: accepted or refused
abbrev pub Verdict : Model → ℕ → List Joint → Result (Unit {0}) MeshFault → Type 0
Verdict m roots js (Ok u) = CountsIn roots js × AllSound m roots js
Verdict m roots js (Err f) = Refused m roots js (told f)

-- a mesh has at most one verdict
abbrev pub OneVerdict : Type 0
OneVerdict = (m : Model) (roots : ℕ) (js : List Joint) (r r' : Result (Unit {0}) MeshFault) → Verdict m roots js r → Verdict m roots js r' → r ≡ r'

-- a mesh is accepted exactly where its counts are in bounds and its rows are joined
abbrev pub AcceptedJoined : Type 0
AcceptedJoined = (m : Model) (roots : ℕ) (js : List Joint) → Verdict m roots js (Ok tt) ↔ (CountsIn roots js × Joined m roots js)
