-- A depth limit over a flat scheme is flat: within the limit its plan is the one below, past it all corners are (0, 0).
use Rattle.std.specs.Prelude.{◌≡◌, ℕ, suc, ◌+◌, ◌-◌, ◌*◌, ◌^◌, ◌<◌, ◌≤◌, min, Bool, cond}
use Rattle.std.proofs.Common.{sym, ◌∙◌, ap, subst, inl, inr, arith}
use Rattle.std.proofs.lemmas.Bool.{le-leb, lt-leb, cases_lt}
use Rattle.scheme.specs.Scheme.{Model}
use Rattle.scheme.specs.Plan.{Plan, Nested, Agrees, Flat, OnPlan, InBox}
use Rattle.scheme.specs.Limiting.{limited, limited_plan}

module _ (q : Plan) (d : ℕ) where
  -- within the limit a corner is the one below
  corner_kept : (l p i : ℕ) → l ≤ d → (limited_plan d q).corner l p i ≡ q.corner l p i
  corner_kept l p i h = rw (le-leb l d h)

  corner_gone : (l p i : ℕ) → d < l → (limited_plan d q).corner l p i ≡ (0, 0)
  corner_gone l p i h = rw (lt-leb l d h)

  zero_kept : (l p i : ℕ) → (l ≤ d → q.corner l p i ≡ (0, 0)) → (limited_plan d q).corner l p i ≡ (0, 0)
  zero_kept l p i z = elim (cases_lt d l) [
    | inl over ↦ corner_gone l p i over
    | inr le ↦ corner_kept l p i le ∙ z le
  ]

  -- the corners of a level within the limit are those below, as a function
  box_kept : (l p n : ℕ) (pt : ℕ × ℕ) → l ≤ d → InBox (q.corner l p) n pt → InBox ((limited_plan d q).corner l p) n pt
  box_kept l p n pt h x =
      let P : Bool → Type 0 = λ b. InBox (λ i. cond b (q.corner l p i) (0, 0)) n pt in
      subst P (sym (le-leb l d h)) x

pub limited_nested : (q : Plan) → Nested q → (d : ℕ) → Nested (limited_plan d q)
limited_nested q ok d = record {
  few = ok.few;
  past = λ l p i h. zero_kept q d l p i (λ _. ok.past l p i h);
  outside = λ l p i out. zero_kept q d l p i (λ le. ok.outside l p i (λ (c : OnPlan q l p). out (omega (arith, c.0), c.1)));
  child = λ l p i j hl hp hi hj.
      (let below : suc l ≤ d = omega arith in
      let point = corner_kept q d (suc l) (p * 2 ^ q.w + i) j below in
      let P : ℕ × ℕ → Type 0 = λ pt. InBox ((limited_plan d q).corner l p) (q.count - 1) pt in
      subst P (sym point) (box_kept q d l p (q.count - 1) (q.corner (suc l) (p * 2 ^ q.w + i) j) (omega arith) (ok.child l p i j (omega arith) hp hi hj)));
}

pub limited_flat : (m : Model) → Flat m → (d : ℕ) → Flat (limited d m)
limited_flat m ok d = record { narrow = ok.narrow; few = ok.few; plain = ok.plain }

pub limited_agrees : (m : Model) (q : Plan) → Agrees m q → (d : ℕ) → Agrees (limited d m) (limited_plan d q)
limited_agrees m q ok d = record { width = ok.width; depth = ap (λ n. min n d) ok.depth }
