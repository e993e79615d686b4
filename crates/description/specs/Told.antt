-- The number of each refusal, and the place that it names.
use Rattle.std.specs.Prelude.{ℕ}
use Rattle.description.specs.declared.refusal.Refusal.{Refusal}
use Rattle.description.specs.declared.refusal.Refusal.TheVariants.{TooLong, UnknownTag, CutOff, Outside, NoMemory}

abbrev pub told : Refusal → ℕ × ℕ
told (CutOff at) = (1, at)
told (UnknownTag at) = (2, at)
told (Outside at) = (4, at)
told TooLong = (5, 0)
told NoMemory = (17, 0)
