-- A scheme whose faces have their own numbers as sorts; all else is as below.
use Rattle.std.specs.Prelude.{ℕ, Some, None, Option, nat_lt}
use Rattle.scheme.specs.Limiting.{given}
use Rattle.scheme.specs.Scheme.{Model}

-- what a face's sort below answers
abbrev pub by_sort : Option ℕ → (ℕ → Option ℕ) → Option ℕ
by_sort (Some t) f = f t
by_sort None f = None

abbrev pub relabelled : Model → Model
relabelled m = record {
  w = m.w;
  F = m.F;
  D = m.D;
  across = m.across;
  at_edge = m.at_edge;
  face_child = m.face_child;
  sort = λ g. given (nat_lt g m.F) (Some g);
  turned = λ g l n. by_sort (m.sort g) (λ t. m.turned t l n);
}
