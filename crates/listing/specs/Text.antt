-- The text of a listing and of a fault.
use Rattle.std.specs.Prelude.{ℕ, suc, List, [], ◌∷◌, ◌++◌, length, codes, decimal}
use Rattle.tiling.specs.declared.leaf.Leaf.{Leaf}
use Rattle.description.specs.Words.{shape_word}
use Rattle.forest.specs.Planting.{leaves}
use Rattle.listing.specs.declared.fault.Layer.{Layer}
use Rattle.listing.specs.declared.fault.Layer.TheVariants.{Reader, Mesh, Forest}
use Rattle.listing.specs.declared.fault.Fault.{Fault}
use Rattle.listing.specs.declared.listing.Listing.{Listing}
use Rattle.listing.specs.Told.{told}

abbrev pub layer_word : Layer → List ℕ
layer_word Reader = codes "reader"
layer_word Mesh = codes "mesh"
layer_word Forest = codes "forest"

-- a space, and the number in decimal
abbrev pub spaced : ℕ → List ℕ
spaced n = codes " " ++ decimal n

abbrev pub line_feed : List ℕ
line_feed = 10 ∷ []

-- "F shape roots leaves splits merges"
abbrev pub forest_line : List ℕ → ℕ → ℕ → ℕ → ℕ → List ℕ
forest_line word roots count splits merges =
    codes "F " ++ (word ++ (spaced roots ++ (spaced count ++ (spaced splits ++ (spaced merges ++ line_feed)))))

-- "L number root level place"
abbrev pub leaf_line : ℕ → Leaf → List ℕ
leaf_line i c = codes "L" ++ (spaced i ++ (spaced c.root ++ (spaced c.level ++ (spaced c.place ++ line_feed))))

-- the lines of the leaves, numbered from i on
unfoldable pub leaf_lines : ℕ → List Leaf → List ℕ
leaf_lines i [] = []
leaf_lines i (c ∷ cs) = leaf_line i c ++ leaf_lines (suc i) cs

-- "E layer number at"
abbrev pub fault_words : Fault → List ℕ
fault_words f = codes "E " ++ (layer_word (told f).0 ++ (spaced (told f).1 ++ spaced (told f).2))

abbrev pub fault_line : Fault → List ℕ
fault_line f = fault_words f ++ line_feed

abbrev pub listing_text : Listing → List ℕ
listing_text x =
    forest_line (shape_word x.shape) x.forest.mesh.roots (length (leaves x.forest)) x.splits x.merges ++ leaf_lines 0 (leaves x.forest)
