-- The number and the place of each fault of a planting.
use Rattle.std.specs.Prelude.{ℕ}
use Rattle.mesh.specs.Faults as mesh
use Rattle.forest.specs.declared.fault.PlantFault.{PlantFault}
use Rattle.forest.specs.declared.fault.PlantFault.TheVariants.{Mesh, TooDeep, NoRoom}

abbrev pub told : PlantFault → ℕ × ℕ
told (Mesh f) = mesh.told f
told TooDeep = (10, 0)
told NoRoom = (11, 0)
