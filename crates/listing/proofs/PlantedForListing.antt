-- What planting in 1,024 records answers, for the listing.
use Rattle.std.proofs.Common.{◌≡◌, ℕ, min, List, length, Err, vec_items, Result, ap, subst}
use Rattle.scheme.specs.Scheme.{Model}
use Rattle.mesh.specs.declared.mesh.Mesh.{Mesh}
use Rattle.tiling.specs.declared.leaf.Leaf.{Leaf}
use Rattle.forest.specs.declared.forest.Forest.{Forest}
use Rattle.forest.specs.declared.fault.PlantFault.{PlantFault}
use Rattle.forest.specs.Planting.{counted, Planted, Stopped, Answers}

module _ (m : Model) (mesh : Mesh) (l : ℕ) (records : List Leaf) (f : Forest) (r : Result ℕ PlantFault) where
  answered : Planted m mesh l records f r → length records ≡ 1024 → Answers m mesh.roots (vec_items mesh.joints) l 1024 f r
  answered p long =
      let cap : counted records ≡ 1024 = ap (λ n. min n 65536) long in
      subst (λ n. Answers m mesh.roots (vec_items mesh.joints) l n f r) cap p.answer

  pub stopped : (e : PlantFault) → Planted m mesh l records f r → r ≡ Err e → length records ≡ 1024 → Stopped m mesh.roots (vec_items mesh.joints) l 1024 e
  stopped e p is long = (subst (Answers m mesh.roots (vec_items mesh.joints) l 1024 f) is (answered p long)).why
