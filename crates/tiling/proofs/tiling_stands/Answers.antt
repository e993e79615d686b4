use Rattle.std.proofs.Common.{◌≡◌, ℕ, true, false, List, sym, refl, ap, ◌∙◌}
use borrow.Author.Tests.{clash}
use Rattle.scheme.specs.Scheme.{Model}
use Rattle.tiling.specs.declared.leaf.Leaf.{Leaf}
use Rattle.tiling.specs.Cells.{Tiles}
use Rattle.tiling.specs.Positions.{fills}
use Rattle.tiling.proofs.Filling.{tiles_iff_chain, tiles_iff_test, even_tiles, even_among}
use Rattle.tiling.proofs.tiling_stands.Goals as goal

-- a list of a scheme of width 1 and depth 3 tiles where the test says so, and only there
module _ (m : Model) (ew : m.w ≡ 1) (ed : m.D ≡ 3) (roots : ℕ) (ls : List Leaf) where
  tested : fills m.w m.D roots ls ≡ fills 1 3 roots ls
  tested = ap (λ w. fills w m.D roots ls) ew ∙ ap (λ d. fills 1 d roots ls) ed

  does : fills 1 3 roots ls ≡ true → Tiles m roots ls
  does e = (tiles_iff_test m roots ls).1 (tested ∙ e)

  does_not : fills 1 3 roots ls ≡ false → Tiles m roots ls → ⊥
  does_not e t = let z : false ≡ true = sym e ∙ sym tested ∙ (tiles_iff_test m roots ls).0 t in clash z

pub returns : goal.returns
returns c = record {
  chain = tiles_iff_chain;
  test = tiles_iff_test;
  even = λ m roots l le. (let e = even_tiles m roots l le in (e.0, e.1, λ c. even_among m roots l c le));
  examples = λ m ew ed. (does m ew ed 1 _ refl, does_not m ew ed 1 _ refl, does_not m ew ed 1 _ refl, does_not m ew ed 2 _ refl);
}
