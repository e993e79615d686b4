-- The definitions tried on a few small meshes.
use Rattle.std.specs.Prelude.{ℕ, ◌-◌, ◌^◌, if◌then◌else◌, List, [], ◌∷◌, Some, None, Ok, Err, nat_lt}
use Rattle.mesh.specs.declared.joint.Joint.{Joint}
use Rattle.mesh.specs.declared.fault.MeshFault.TheVariants.{Counts, Absent, SortsDiffer, Taken}
use Rattle.mesh.specs.Checking.{Verdict}
use Rattle.mesh.specs.Crossing.{Crosses}
use Rattle.scheme.specs.Scheme.{Model}

-- what a mesh asks of a scheme: five faces, the first three of one sort and the others of another, and two levels;
-- an edge number is turned end for end
abbrev pub five : Model
five = record {
  w = 2;
  F = 5;
  D = 2;
  across = λ l p f. None;
  at_edge = λ l g n. None;
  face_child = λ l p f j. None;
  sort = λ g. if nat_lt g 5 then Some (if nat_lt g 3 then 0 else 1) else None;
  turned = λ s l n. Some (2 ^ l - 1 - n);
}

abbrev pub joint : ℕ → ℕ → ℕ → ℕ → ℕ → Joint
joint r a r' b t = record { root = r; face = a; other_root = r'; other_face = b; turn = t }

-- two roots in a ring, the second joint turned
abbrev pub ring : List Joint
ring = joint 0 1 1 2 0 ∷ joint 1 1 0 2 1 ∷ []

pub record SampleVerdicts : Type 0 where
  pub ring_stands : Verdict five 2 ring (Ok tt)
  -- two faces of one root
  pub loop_stands : Verdict five 1 (joint 0 0 0 1 0 ∷ []) (Ok tt)
  pub many_roots : Verdict five 257 [] (Err Counts)
  pub turn_two : Verdict five 2 (joint 0 1 1 2 2 ∷ []) (Err (Absent 1))
  pub two_sorts : Verdict five 2 (joint 0 1 1 3 0 ∷ []) (Err (SortsDiffer 1))
  -- a face that row 1 joins already
  pub twice : Verdict five 2 (joint 0 1 1 2 0 ∷ joint 1 2 0 0 0 ∷ []) (Err (Taken 2))
  -- the fault 9 of row 1 comes before the fault 7 of row 2
  pub row_first : Verdict five 1 (joint 0 0 0 0 0 ∷ joint 7 0 0 1 0 ∷ []) (Err (Taken 1))

pub record SampleCrossings : Type 0 where
  -- over row 1, and over row 2 read backwards and turned
  pub kept : Crosses five ring 2 0 1 1 1 2 1
  pub turned : Crosses five ring 2 0 2 1 1 1 2
  -- the rim
  pub rim : (r' b n' : ℕ) → Crosses five ring 2 0 0 1 r' b n' → ⊥
