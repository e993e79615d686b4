-- The number and the place of each fault of a mesh.
use Rattle.std.specs.Prelude.{ℕ}
use Rattle.mesh.specs.declared.fault.MeshFault.{MeshFault}
use Rattle.mesh.specs.declared.fault.MeshFault.TheVariants.{Counts, Absent, SortsDiffer, Taken}

abbrev pub told : MeshFault → ℕ × ℕ
told Counts = (6, 0)
told (Absent i) = (7, i)
told (SortsDiffer i) = (8, i)
told (Taken i) = (9, i)
