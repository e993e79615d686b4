-- Each fault's layer, number and place.
use Rattle.std.specs.Prelude.{ℕ}
use Rattle.description.specs.Told as reader
use Rattle.forest.specs.Faults as planting
use Rattle.forest.specs.declared.fault.PlantFault.{PlantFault}
use Rattle.forest.specs.declared.fault.PlantFault.TheVariants as plant
use Rattle.listing.specs.declared.fault.Layer.{Layer}
use Rattle.listing.specs.declared.fault.Layer.TheVariants as layer
use Rattle.listing.specs.declared.fault.Fault.{Fault}
use Rattle.listing.specs.declared.fault.Fault.TheVariants.{Reader, Planting, NoMemory}

-- a mesh's fault is told by the mesh, any other of a planting by the forest
abbrev pub planting_layer : PlantFault → Layer
planting_layer (plant.Mesh f) = layer.Mesh
planting_layer plant.TooDeep = layer.Forest
planting_layer plant.NoRoom = layer.Forest

abbrev pub told : Fault → Layer × ℕ × ℕ
told (Reader e) = (layer.Reader, (reader.told e).0, (reader.told e).1)
told (Planting e) = (planting_layer e, (planting.told e).0, (planting.told e).1)
told NoMemory = (layer.Forest, 17, 0)
