-- What is said of what the program does not do yet, and of why there is no listing.
use Rattle.std.specs.Prelude.{ℕ, List, codes}
use Rattle.listing.specs.Text.{fault_words}
use Rattle.listing.specs.declared.unlisted.Unlisted.{Unlisted}
use Rattle.listing.specs.declared.unlisted.Unlisted.TheVariants.{Refused, Wanting}
use Rattle.listing.specs.declared.unlisted.NotYet.{NotYet}
use Rattle.listing.specs.declared.unlisted.NotYet.TheVariants.{Shaped, Stepped}

abbrev pub wanting_text : NotYet → List ℕ
wanting_text (Shaped s) = codes "this version serves the line shape only, and the description has another shape"
wanting_text Stepped = codes "this version takes no steps, and the description has some"

abbrev pub unlisted_text : Unlisted → List ℕ
unlisted_text (Refused f) = fault_words f
unlisted_text (Wanting w) = wanting_text w
