-- The head, the rows and the steps, read one after another, make a reading of the whole input.
use Rattle.std.proofs.Common.{◌≡◌, ℕ, ◌≤◌, ◌⊎◌, List, ◌++◌, length, drop, IsErrAnd, Result, sym, ap, ◌∙◌, inl, inr, append_assoc, arith, length-append}
use Rattle.std.specs.List.{flat_map}
use Rattle.std.proofs.lemmas.Result.{err_from_is_err_and}
use Rattle.mesh.specs.declared.joint.Joint.{Joint}
use Rattle.description.specs.declared.reader.Reader.{Reader}
use Rattle.description.specs.declared.refusal.Refusal.{Refusal}
use Rattle.description.specs.declared.description.Description.{Description}
use Rattle.description.specs.Told.{told}
use Rattle.description.specs.Format.{Head, head_bytes, row_bytes, step_bytes}
use Rattle.description.specs.Bounds.{HeadWithin, StepWithin}
use Rattle.description.specs.Faults.{StepFault}
use Rattle.description.specs.Reading.{refused, Reads}
use Rattle.description.specs.Outcome.{Answered}
use Rattle.description.specs.Passing.{left, Passed}
use Rattle.description.specs.Parts.{RowsRead, RowsStopped, Stopped}

-- the exit of a `?`
pub refuses : (bytes : List ℕ) (r : Result Description Refusal) (e : Refusal) → IsErrAnd r (λ y. y ≡ e) → (told e ≡ (17, 0)) ⊎ Reads bytes (refused (told e).0 (told e).1) → Answered bytes r
refuses bytes r e by q =
    let p = err_from_is_err_and r by in
    rw (p.1, p.2) q

-- the reader r stands at the start of the input
module _ (bytes : List ℕ) (short : length bytes ≤ 8192) (r : Reader) (start : r.at ≡ 0) (input : r.bytes.now ≡ bytes) where
  whole : left r ≡ bytes
  whole = ap (λ (n : ℕ). drop n r.bytes.now) start ∙ input

  module _ (h : Head) (within : HeadWithin h) {r' : Reader} (head : Passed r r' (head_bytes h)) where
    at_row : (e : ℕ × ℕ) → RowsStopped h.rows r' e → Reads bytes (refused e.0 e.1)
    at_row e s =
        inr (inr (inl record {
          short = short;
          head = h;
          rows = s.stop.done;
          rest = s.stop.rest;
          head_within = within;
          rows_within = s.stop.within;
          fewer = s.fewer;
          whole = sym whole ∙ head.split ∙ ap (λ (z : List ℕ). head_bytes h ++ z) s.stop.split ∙
              sym (append_assoc (head_bytes h) (flat_map row_bytes s.stop.done) s.stop.rest);
          place = omega (arith, s.stop.place, head.next, start, length-append (head_bytes h) (flat_map row_bytes s.stop.done));
          fault = s.stop.fault;
        }))

    pub row_or_memory : (e : ℕ × ℕ) → (e ≡ (17, 0)) ⊎ RowsStopped h.rows r' e → (e ≡ (17, 0)) ⊎ Reads bytes (refused e.0 e.1)
    row_or_memory e (inl m) = inl m
    row_or_memory e (inr s) = inr (at_row e s)

    module _ (rows : List Joint) {r'' : Reader} (done : RowsRead h.rows r' r'' rows) where
      -- the head and the rows in front
      before : bytes ≡ head_bytes h ++ flat_map row_bytes rows ++ left r''
      before = sym whole ∙ head.split ∙ ap (λ (z : List ℕ). head_bytes h ++ z) done.passed.split ∙
          sym (append_assoc (head_bytes h) (flat_map row_bytes rows) (left r''))

      at_step : (e : ℕ × ℕ) → Stopped step_bytes (StepWithin h.scheme) (StepFault h.scheme) r'' e → Reads bytes (refused e.0 e.1)
      at_step e s =
          inr (inr (inr record {
            short = short;
            head = h;
            rows = rows;
            steps = s.done;
            rest = s.rest;
            head_within = within;
            rows_within = done.within;
            all_rows = done.count_is;
            steps_within = s.within;
            whole = before ∙ ap (λ (z : List ℕ). head_bytes h ++ flat_map row_bytes rows ++ z) s.split ∙
                sym (append_assoc (head_bytes h ++ flat_map row_bytes rows) (flat_map step_bytes s.done) s.rest);
            place = omega (
              arith,
              s.place,
              done.passed.next,
              head.next,
              start,
              length-append (head_bytes h) (flat_map row_bytes rows),
              length-append (head_bytes h ++ flat_map row_bytes rows) (flat_map step_bytes s.done),
            );
            fault = s.fault;
          }))

      pub step_or_memory : (e : ℕ × ℕ) → (e ≡ (17, 0)) ⊎ Stopped step_bytes (StepWithin h.scheme) (StepFault h.scheme) r'' e →
          (e ≡ (17, 0)) ⊎ Reads bytes (refused e.0 e.1)
      step_or_memory e (inl m) = inl m
      step_or_memory e (inr s) = inr (at_step e s)
