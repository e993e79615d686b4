-- The answer of a planting, from what it laid in the counted records.
use Rattle.std.proofs.Common.{◌≡◌, ℕ, ◌*◌, ◌^◌, ◌≤◌, ◌↔◌, List, Ok, Err, MatchResult, Result, Some, is_some, unwrap_or, take, length, vec_items, sym, ap, ◌∙◌, subst}
use Rattle.std.specs.Result.{result_ok}
use Rattle.scheme.specs.Scheme.{Model, k}
use Rattle.mesh.specs.declared.joint.Joint.{Joint}
use Rattle.tiling.specs.declared.leaf.Leaf.{Leaf}
use Rattle.tiling.specs.Cells.{CellOf, Tiles, Among}
use Rattle.tiling.specs.Positions.{evenly, Blank}
use Rattle.tiling.proofs.Filling.{even_tiles, even_among}
use Rattle.forest.specs.declared.forest.Forest.{Forest}
use Rattle.forest.specs.declared.fault.PlantFault.{PlantFault}
use Rattle.forest.specs.Planting.{leaves, Laid, Stopped, Answers}

module _ (m : Model) (roots l : ℕ) (ls : List Leaf) (le : l ≤ m.D) (e : ls ≡ evenly roots m.w l) where
  pub planted_tiles : Tiles m roots ls
  planted_tiles = subst (Tiles m roots) (sym e) (even_tiles m roots l le).0

  pub planted_long : length ls ≡ roots * k m ^ l
  planted_long = ap length e ∙ (even_tiles m roots l le).1

  pub planted_cells : (c : Leaf) → Among ls c ↔ (CellOf m roots c × (c.level ≡ l))
  planted_cells c = subst (λ xs. Among xs c ↔ (CellOf m roots c × (c.level ≡ l))) (sym e) (even_among m roots l c le)

module _ (m : Model) (roots : ℕ) (js : List Joint) (l cap : ℕ) (records : List Leaf) where
  -- the leaves and then blanks, or blanks alone and why the planting stopped
  abbrev pub Lays : Result ℕ PlantFault → Type 0
  Lays r = MatchResult r (λ n. Laid m roots js l cap n records) (λ e. Stopped m roots js l cap e × Blank records 0 cap)

  pub laid_blank : (r : Result ℕ PlantFault) → Lays r → Blank records (unwrap_or (result_ok r) 0) cap
  laid_blank (Ok n) h = h.rest
  laid_blank (Err e) h = h.1

  pub laid_count : (r : Result ℕ PlantFault) (n : ℕ) → Lays r → result_ok r ≡ Some n → Laid m roots js l cap n records
  laid_count (Ok n') n h e = let same : n' ≡ n = cc in rw same at h
  laid_count (Err x) n h e = absurd (cc)

  pub answered : (f : Forest) (r : Result ℕ PlantFault) → f.count ≡ result_ok r → vec_items f.memory ≡ records → Lays r → Answers m roots js l cap f r
  answered f (Ok n) e is h =
      let all : leaves f ≡ evenly roots m.w l = ap (λ o. take (unwrap_or o 0) (vec_items f.memory)) e ∙ ap (take n) is ∙ h.even in
      record {
        sound = h.sound;
        shallow = h.shallow;
        count = h.count;
        room = h.room;
        alive = ap (λ o. is_some o) e;
        long = planted_long m roots l (leaves f) h.shallow all ∙ sym h.count;
        ground = planted_tiles m roots l (leaves f) h.shallow all;
        cells = planted_cells m roots l (leaves f) h.shallow all;
        even = all;
        rest = subst (λ xs. Blank xs n cap) (sym is) h.rest;
      }
  answered f (Err x) e is h = record {
    why = h.0;
    dead = ap (λ o. is_some o) e;
    none = ap (λ o. take (unwrap_or o 0) (vec_items f.memory)) e;
    rest = subst (λ xs. Blank xs 0 cap) (sym is) h.1;
  }
