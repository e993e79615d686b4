use Rattle.std.proofs.Common.{◌≡◌, ℕ, true, is_some, Some, None, Option, List, unwrap_or, take, refl, sym, ap, ◌∙◌}
use Rattle.tiling.specs.declared.leaf.Leaf.{Leaf}
use Rattle.tiling.specs.Positions.{fills}
use Rattle.tiling.proofs.Filling.{tiles_iff_test}
use Rattle.scheme.specs.Scheme.{Model}
use Rattle.tiling.specs.Cells.{Tiles}
use Rattle.forest.proofs.forest.Forest.leaves.Goals as goal

-- the test that the type carries, for a scheme with the forest's numbers, says that the leaves tile
signed_tiles : (m : Model) (w D roots : ℕ) (ls : List Leaf) → w ≡ m.w → D ≡ m.D → fills w D roots ls ≡ true → Tiles m roots ls
signed_tiles m w D roots ls ew ed t =
    (tiles_iff_test m roots ls).1 (ap (λ x. fills x m.D roots ls) (sym ew) ∙ ap (λ x. fills w x roots ls) (sym ed) ∙ t)

-- a fact of the leaves, where there is a count of them
counted_front : (P : List Leaf → Type 0) (count : Option ℕ) (records : List Leaf) → ((n : ℕ) → count ≡ Some n → P (take n records)) → is_some count ≡ true → P (take (unwrap_or count 0) records)
counted_front P (Some n) records h alive = h n refl
counted_front P None records h alive = absurd (cc)

pub returns-clause-ground : goal.returns-clause-ground
returns-clause-ground c = λ m s alive.
    let f = c.args.self.now in
    rw c.front.ensures
    (signed_tiles m f.signature.width f.signature.depth f.mesh.roots _ s.width s.depth
    (counted_front (λ ls. fills f.signature.width f.signature.depth f.mesh.roots ls ≡ true) f.count f.memory.items f.ground alive))
