-- What is answered to the bytes of a description.
use Rattle.std.specs.Prelude.{◌≡◌, ℕ, ◌*◌, ◌^◌, ◌≤◌, List, [], Ok, Err, Result, vec_items}
use Rattle.scheme.specs.Scheme.{Model, k}
use Rattle.scheme.specs.Limiting.{limited}
use Rattle.shapes.specs.Segment.{line}
use Rattle.description.specs.Format.{Contents, scheme_of}
use Rattle.description.specs.Reading.{Reads, granted}
use Rattle.description.specs.Outcome as reader
use Rattle.forest.specs.Planting.{Sound, Stopped, Grown}
use Rattle.listing.specs.declared.fault.Fault.TheVariants.{Reader, Planting, NoMemory}
use Rattle.listing.specs.declared.listing.Listing.{Listing}
use Rattle.listing.specs.Told.{told}
use Rattle.listing.specs.Text.{listing_text, fault_line}
use Rattle.listing.specs.declared.unlisted.NotYet.TheVariants.{Shaped, Stepped}
use Rattle.listing.specs.declared.unlisted.Unlisted.{Unlisted}
use Rattle.listing.specs.declared.unlisted.Unlisted.TheVariants.{Refused, Wanting}

-- a listing, or why there is none
abbrev pub Answer : Type 0
Answer = Result Listing Unlisted

-- the listing holds the forest that the description plants in 1,024 records, and there is no step
pub record Lists (m : Model) (c : Contents) (x : Listing) : Type 0 where
  pub shape : scheme_of x.shape ≡ c.scheme
  pub no_steps : c.steps ≡ []
  pub roots : x.forest.mesh.roots ≡ c.roots
  pub joints : vec_items x.forest.mesh.joints ≡ c.joints
  pub grown : (n : ℕ) × Grown m c.roots c.joints c.level 1024 x.forest n
  pub splits : x.splits ≡ 0
  pub merges : x.merges ≡ 0

-- the description is planted, and then asks for a step
pub record StepsWanting (m : Model) (c : Contents) : Type 0 where
  pub sound : Sound m c.roots c.joints
  pub shallow : c.level ≤ m.D
  pub room : c.roots * k m ^ c.level ≤ 1024
  pub steps : c.steps ≡ [] → ⊥

-- what a description with these contents, over a scheme that means m, is answered; want of memory says nothing of it
abbrev pub Planned : Model → Contents → Answer → Type 0
Planned m c (Ok x) = Lists m c x
Planned m c (Err (Refused (Reader e))) = ⊥
Planned m c (Err (Refused (Planting e))) = Stopped m c.roots c.joints c.level 1024 e
Planned m c (Err (Refused NoMemory)) = Unit {0}
Planned m c (Err (Wanting (Shaped s))) = ⊥
Planned m c (Err (Wanting Stepped)) = StepsWanting m c

-- a line, under the description's depth limit
abbrev pub line_model : Contents → Model
line_model c = limited c.limit (line 18)

-- the bytes are those of a description of lines, which is answered
pub record OfLines (bytes : List ℕ) (r : Answer) : Type 0 where
  pub what : Contents
  pub reads : Reads bytes (granted what)
  pub scheme : what.scheme ≡ 1
  pub planned : Planned (line_model what) what r

-- the bytes are those of a description of another shape
pub record OfAnother (bytes : List ℕ) (number : ℕ) : Type 0 where
  pub what : Contents
  pub reads : Reads bytes (granted what)
  pub scheme : what.scheme ≡ number
  pub other : number ≡ 1 → ⊥

abbrev pub Answers : List ℕ → Answer → Type 0
Answers bytes (Err (Refused (Reader e))) = reader.Answered bytes (Err e)
Answers bytes (Err (Refused NoMemory)) = Unit {0}
Answers bytes (Err (Wanting (Shaped s))) = OfAnother bytes (scheme_of s)
Answers bytes (Ok x) = OfLines bytes (Ok x)
Answers bytes (Err (Refused (Planting e))) = OfLines bytes (Err (Refused (Planting e)))
Answers bytes (Err (Wanting Stepped)) = OfLines bytes (Err (Wanting Stepped))

-- what an answer prints
abbrev pub printed : Answer → List ℕ
printed (Ok x) = listing_text x
printed (Err (Refused f)) = fault_line f
printed (Err (Wanting w)) = []

-- an answer that tells no want of memory
abbrev pub Certain : Answer → Type 0
Certain (Ok x) = Unit {0}
Certain (Err (Refused f)) = (told f).1 ≡ 17 → ⊥
Certain (Err (Wanting w)) = Unit {0}

-- the bytes determine what is printed
abbrev pub OneText : Type 0
OneText = (bytes : List ℕ) (r r' : Answer) → Answers bytes r → Answers bytes r' → Certain r → Certain r' → printed r ≡ printed r'
