-- A depth limit over a scheme: the depth becomes the smaller one, all else is as below.
use Rattle.std.specs.Prelude.{ℕ, min, Bool, true, false, cond, None, Option, nat_le, nat_lt}
use Rattle.scheme.specs.Scheme.{Model}
use Rattle.scheme.specs.Plan.{Plan}

-- an answer where the test holds, and none elsewhere
abbrev pub given : {A : Type 0} → Bool → Option A → Option A
given true o = o
given false o = None

abbrev pub limited : ℕ → Model → Model
limited d m = record {
  w = m.w;
  F = m.F;
  D = min m.D d;
  across = λ l p f. given (nat_le l d) (m.across l p f);
  at_edge = λ l g n. given (nat_le l d) (m.at_edge l g n);
  face_child = λ l p f j. given (nat_lt l d) (m.face_child l p f j);
  sort = m.sort;
  turned = λ s l n. given (nat_le l d) (m.turned s l n);
}

abbrev pub limited_plan : ℕ → Plan → Plan
limited_plan d q = record {
  w = q.w;
  D = min q.D d;
  count = q.count;
  corner = λ l p i. cond (nat_le l d) (q.corner l p i) (0, 0);
}
