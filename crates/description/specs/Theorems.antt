-- What is proved of the reading itself; the contract of `read` names each.
use Rattle.std.specs.Prelude.{◌≡◌, ℕ, ◌<◌, List, [], ◌∷◌, ◌++◌, replicate, All}
use Rattle.description.specs.declared.step.Step.TheVariants.{Range}
use Rattle.description.specs.Format.{Contents, encoded}
use Rattle.description.specs.Reading.{Answer, Reads}

-- a list of bytes has at most one outcome
abbrev pub OneReading : Type 0
OneReading = (bytes : List ℕ) (x y : Answer) → Reads bytes x → Reads bytes y → x ≡ y

-- and every list of bytes has one
abbrev pub SomeReading : Type 0
SomeReading = (bytes : List ℕ) → All (λ b. b < 256) bytes → (x : Answer) × Reads bytes x

-- two roots of a line joined end to end, planted at level 1 up to level 2; then the first root's place 0 is refined to level 2
abbrev pub two_lines : Contents
two_lines = record {
  scheme = 1;
  roots = 2;
  level = 1;
  limit = 2;
  joints = record { root = 0; face = 1; other_root = 1; other_face = 0; turn = 0 } ∷ [];
  steps = Range (record { root = 0; target = 2; first = 0; last = 0 }) ∷ [];
}

abbrev pub two_lines_bytes : List ℕ
two_lines_bytes =
    (0x01 ∷ 0x00 ∷ 0x02 ∷ 0x01 ∷ 0x02 ∷ 0x00 ∷ 0x01 ∷ []) ++ (0x00 ∷ 0x00 ∷ 0x01 ∷ 0x00 ∷ 0x01 ∷ 0x00 ∷ 0x00 ∷ []) ++
    (0x07 ∷ 0x00 ∷ 0x00 ∷ 0x02 ∷ []) ++ replicate 16 0x00

abbrev pub TwoLinesEncoded : Type 0
TwoLinesEncoded = encoded two_lines ≡ two_lines_bytes
