-- What planting answers, and what the forest and its memory hold afterwards.
use Rattle.std.specs.Prelude.{◌≡◌, ℕ, ◌*◌, ◌^◌, ◌<◌, ◌≤◌, min, Bool, true, false, ◌↔◌, is_some, unwrap_or, List, [], length, take, drop, Ok, Err, vec_items, Result}
use Rattle.scheme.specs.Scheme.{Model, k}
use Rattle.mesh.specs.declared.mesh.Mesh.{Mesh as TheMesh}
use Rattle.mesh.specs.declared.joint.Joint.{Joint}
use Rattle.mesh.specs.Checking.{Verdict}
use Rattle.tiling.specs.declared.leaf.Leaf.{Leaf}
use Rattle.tiling.specs.Cells.{CellOf, Tiles, Among}
use Rattle.tiling.specs.Positions.{evenly, Blank}
use Rattle.forest.specs.declared.even_cut.EvenCut.{EvenCut}
use Rattle.forest.specs.declared.forest.Forest.{Forest}
use Rattle.forest.specs.declared.fault.PlantFault.{PlantFault}
use Rattle.forest.specs.declared.fault.PlantFault.TheVariants.{Mesh, TooDeep, NoRoom}
use Rattle.forest.specs.Signs.{Signs}
use Rattle.forest.specs.Cuts.{leaf_count}

-- its planting was granted
abbrev pub alive : Forest → Bool
alive f = is_some f.count

abbrev pub leaves : Forest → List Leaf
leaves f = take (unwrap_or f.count 0) (vec_items f.memory)

-- the records that count: memory past 65,536 does not
abbrev pub counted : List Leaf → ℕ
counted records = min (length records) 65536

-- the mesh is sound under the scheme
abbrev pub Sound : Model → ℕ → List Joint → Type 0
Sound m roots js = Verdict m roots js (Ok tt)

-- why a planting stops: the mesh is checked first, then the level, then the room
abbrev pub Stopped : Model → ℕ → List Joint → ℕ → ℕ → PlantFault → Type 0
Stopped m roots js l cap (Mesh f) = Verdict m roots js (Err f)
Stopped m roots js l cap TooDeep = Sound m roots js × (m.D < l)
Stopped m roots js l cap NoRoom = Sound m roots js × (l ≤ m.D) × (cap < roots * k m ^ l)

-- a sound mesh, a level that is not too deep, and the cut of all roots to it, whose leaves fit in the cap
pub record Admitted (m : Model) (roots : ℕ) (js : List Joint) (l cap : ℕ) (cut : EvenCut) : Type 0 where
  pub sound : Sound m roots js
  pub shallow : l ≤ m.D
  pub all_roots : cut.roots ≡ roots
  pub by_width : cut.width ≡ m.w
  pub to_level : cut.level ≡ l
  pub room : leaf_count cut ≤ cap

-- the records hold n leaves, every root cut evenly to level l, and then blanks up to the cap
pub record Laid (m : Model) (roots : ℕ) (js : List Joint) (l cap n : ℕ) (records : List Leaf) : Type 0 where
  pub sound : Sound m roots js
  pub shallow : l ≤ m.D
  pub count : n ≡ roots * k m ^ l
  pub room : n ≤ cap
  pub even : take n records ≡ evenly roots m.w l
  pub rest : Blank records n cap

-- a planting is granted: every root is cut evenly to level l
pub record Grown (m : Model) (roots : ℕ) (js : List Joint) (l cap : ℕ) (f : Forest) (n : ℕ) : Type 0 where
  pub sound : Sound m roots js
  pub shallow : l ≤ m.D
  pub count : n ≡ roots * k m ^ l
  pub room : n ≤ cap
  pub alive : alive f ≡ true
  pub long : length (leaves f) ≡ n
  -- the leaves stand in curve order, and every finest place of every root lies in exactly one of them
  pub ground : Tiles m roots (leaves f)
  -- they are the cells of level l
  pub cells : (c : Leaf) → Among (leaves f) c ↔ (CellOf m roots c × (c.level ≡ l))
  pub even : leaves f ≡ evenly roots m.w l
  pub rest : Blank (vec_items f.memory) n cap

-- a planting is refused: the forest is dead, and every counted record is blank
pub record Dead (m : Model) (roots : ℕ) (js : List Joint) (l cap : ℕ) (f : Forest) (e : PlantFault) : Type 0 where
  pub why : Stopped m roots js l cap e
  pub dead : alive f ≡ false
  pub none : leaves f ≡ []
  pub rest : Blank (vec_items f.memory) 0 cap

abbrev pub Answers : Model → ℕ → List Joint → ℕ → ℕ → Forest → Result ℕ PlantFault → Type 0
Answers m roots js l cap f (Ok n) = Grown m roots js l cap f n
Answers m roots js l cap f (Err e) = Dead m roots js l cap f e

-- planting by a scheme that means m, handed a mesh, a level and a memory that holds these records
pub record Planted (m : Model) (mesh : TheMesh) (l : ℕ) (records : List Leaf) (f : Forest) (r : Result ℕ PlantFault) : Type 0 where
  pub answer : Answers m mesh.roots (vec_items mesh.joints) l (counted records) f r
  -- what the forest keeps
  pub mesh_kept : f.mesh ≡ mesh
  pub level_kept : f.level ≡ l
  pub signed : Signs m f.signature
  -- the memory is as long as it was, and as it was past the counted records
  pub same_long : length (vec_items f.memory) ≡ length records
  pub past : drop (counted records) (vec_items f.memory) ≡ drop (counted records) records

-- planting has one answer, and leaves one list of leaves
abbrev pub OnePlanting : Type 0
OnePlanting = (m : Model) (roots : ℕ) (js : List Joint) (l cap : ℕ) (f f' : Forest) (r r' : Result ℕ PlantFault) →
    Answers m roots js l cap f r → Answers m roots js l cap f' r' → (r ≡ r') × (leaves f ≡ leaves f')
