-- A list of bytes has at most one reading.
use Rattle.std.proofs.Common.{◌≡◌, ℕ, ◌<◌, ◌≤◌, ◌⊎◌, List, [], ◌++◌, length, sym, refl, ap, ◌∙◌, subst, inl, inr, append_assoc, append-nil, arith, length-append}
use Rattle.std.specs.List.{All, flat_map}
use Rattle.mesh.specs.declared.joint.Joint.{Joint}
use Rattle.description.specs.declared.step.Step.{Step}
use Rattle.description.specs.declared.step.Step.TheVariants.{Window, Range, Balance}
use Rattle.description.specs.Format.{Head, head_of, head_bytes, row_bytes, step_bytes}
use Rattle.description.specs.Bounds.{HeadFits, HeadWithin, RowFits, RowWithin, StepFits, StepWithin}
use Rattle.description.specs.Faults.{Cut, TagFault, HeadFault, RowFault, StepFault}
use Rattle.description.specs.Reading.{Answer, granted, refused, Reads}
use Rattle.description.specs.Theorems.{OneReading}
use Rattle.description.proofs.Following.{step_some}
use Rattle.description.proofs.Prefixes.{head_one, row_one, step_one, head_begun, row_begun, step_begun, cut_one, tag_one}
use Rattle.description.proofs.Comparing.{Begun, no_fault, one_fault, compare}

head_fits : (h : Head) → HeadWithin h → HeadFits h
head_fits h w = record {
  scheme_fits = omega (arith, w.scheme_to);
  roots_fit = omega (arith, w.roots_to);
  level_fits = omega (arith, w.level_to);
  limit_fits = omega (arith, w.limit_to);
  rows_fit = omega (arith, w.rows_to);
}

step_fits : (scheme : ℕ) (s : Step) → StepWithin scheme s → StepFits s
step_fits scheme (Window w) g = g.fits
step_fits scheme (Range r) g = g.fits
step_fits scheme Balance g = tt

-- how the steps end: at the end of the input, or at a fault
Ending : Head → List Joint → List Step → List ℕ → Answer → Type 0
Ending h rows steps rest x =
    ((rest ≡ []) × (x ≡ granted record { scheme = h.scheme; roots = h.roots; level = h.level; limit = h.limit; joints = rows; steps = steps })) ⊎
    ((n : ℕ) × StepFault h.scheme n rest × (x ≡ refused n (length (head_bytes h ++ flat_map row_bytes rows ++ flat_map step_bytes steps))))

-- a reading from where the steps begin
record Stepped (h : Head) (rows : List Joint) (bytes : List ℕ) (x : Answer) : Type 0 where
  steps : List Step
  rest : List ℕ
  within : All (StepWithin h.scheme) steps
  split : bytes ≡ flat_map step_bytes steps ++ rest
  end : Ending h rows steps rest x

-- how the rows end
RowsEnding : Head → List Joint → List ℕ → Answer → Type 0
RowsEnding h rows rest x =
    ((length rows < h.rows) × ((n : ℕ) × RowFault n rest × (x ≡ refused n (length (head_bytes h ++ flat_map row_bytes rows))))) ⊎
    ((length rows ≡ h.rows) × Stepped h rows rest x)

-- a reading from where the rows begin
record Rowed (h : Head) (bytes : List ℕ) (x : Answer) : Type 0 where
  rows : List Joint
  rest : List ℕ
  within : All RowWithin rows
  split : bytes ≡ flat_map row_bytes rows ++ rest
  end : RowsEnding h rows rest x

record Headed (bytes : List ℕ) (x : Answer) : Type 0 where
  head : Head
  rest : List ℕ
  within : HeadWithin head
  split : bytes ≡ head_bytes head ++ rest
  end : Rowed head rest x

-- a reading, part by part
Staged : List ℕ → Answer → Type 0
Staged bytes x =
    ((8192 < length bytes) × (x ≡ refused 5 0)) ⊎
    ((length bytes ≤ 8192) × (((n : ℕ) × HeadFault n bytes × (x ≡ refused n 0)) ⊎ Headed bytes x))

-- no step begins at the end of the input
not_at_end : (scheme n : ℕ) (rest : List ℕ) → rest ≡ [] → StepFault scheme n rest → ⊥
not_at_end scheme n rest e (inl (inl u)) = omega (arith, ap length e, ap length u.begins)
not_at_end scheme n rest e (inl (inr u)) = omega (arith, ap length e, ap length u.begins)
not_at_end scheme n rest e (inr o) =
    omega (arith, ap length e, ap length o.begins, length-append (step_bytes o.value) o.more, step_some o.value)

same_fault : (n m at : ℕ) (x y : Answer) → n ≡ m → x ≡ refused n at → y ≡ refused m at → x ≡ y
same_fault n m at x y e p q = p ∙ ap (λ (z : ℕ). refused z at) e ∙ sym q

module _ (h : Head) (rows : List Joint) where
  ending_one : (steps : List Step) (rest : List ℕ) (x y : Answer) → Ending h rows steps rest x → Ending h rows steps rest y → x ≡ y
  unfolding Ending
  ending_one steps rest x y (inl a) (inl b) = a.1 ∙ sym b.1
  ending_one steps rest x y (inl a) (inr b) = absurd (not_at_end h.scheme b.0 rest a.0 b.1)
  ending_one steps rest x y (inr a) (inl b) = absurd (not_at_end h.scheme a.0 rest b.0 a.1)
  ending_one steps rest x y (inr a) (inr b) =
      same_fault a.0 b.0 (length (head_bytes h ++ flat_map row_bytes rows ++ flat_map step_bytes steps)) x y
      (one_fault step_bytes StepFits (StepWithin h.scheme) TagFault step_one (step_fits h.scheme) step_begun tag_one a.0 b.0 rest a.1 b.1) a.2 b.2

  -- the steps do not end before a good step
  not_before : (steps : List Step) (rest : List ℕ) (x : Answer) → Ending h rows steps rest x → Begun step_bytes (StepWithin h.scheme) rest → ⊥
  unfolding Ending
  not_before steps rest x (inl a) b =
      omega (arith, ap length a.0, ap length b.begins, length-append (step_bytes b.part) b.more, step_some b.part)
  not_before steps rest x (inr a) b =
      no_fault step_bytes StepFits (StepWithin h.scheme) TagFault step_one (step_fits h.scheme) step_begun tag_one a.0 rest b a.1

  stepped_one : (bytes : List ℕ) (x y : Answer) → Stepped h rows bytes x → Stepped h rows bytes y → x ≡ y
  stepped_one bytes x y a b =
      go (compare step_bytes StepFits (StepWithin h.scheme) TagFault step_one (step_fits h.scheme) step_begun tag_one
      a.steps b.steps a.rest b.rest a.within b.within (sym a.split ∙ b.split))
    where
      go : ((a.steps ≡ b.steps) × (a.rest ≡ b.rest)) ⊎
          (((length a.steps < length b.steps) × Begun step_bytes (StepWithin h.scheme) a.rest) ⊎
          ((length b.steps < length a.steps) × Begun step_bytes (StepWithin h.scheme) b.rest)) → x ≡ y
      go (inl p) =
          ending_one b.steps b.rest x y
          (subst (λ (z : List ℕ). Ending h rows b.steps z x) p.1 (subst (λ (z : List Step). Ending h rows z a.rest x) p.0 a.end)) b.end
      go (inr (inl p)) = absurd (not_before a.steps a.rest x a.end p.1)
      go (inr (inr p)) = absurd (not_before b.steps b.rest y b.end p.1)

module _ (h : Head) where
  rows_ending_one : (rows : List Joint) (rest : List ℕ) (x y : Answer) → RowsEnding h rows rest x → RowsEnding h rows rest y → x ≡ y
  unfolding RowsEnding
  rows_ending_one rows rest x y (inl (s, f)) (inl (t, g)) =
      same_fault f.0 g.0 (length (head_bytes h ++ flat_map row_bytes rows)) x y
      (one_fault row_bytes RowFits RowWithin (Cut 7) row_one (λ j w. w.fits) row_begun (cut_one 7) f.0 g.0 rest f.1 g.1) f.2 g.2
  rows_ending_one rows rest x y (inl a) (inr b) = absurd (omega (arith, a.0, b.0))
  rows_ending_one rows rest x y (inr a) (inl b) = absurd (omega (arith, a.0, b.0))
  rows_ending_one rows rest x y (inr a) (inr b) = stepped_one h rows rest x y a.1 b.1

  at_most : (rows : List Joint) (rest : List ℕ) (x : Answer) → RowsEnding h rows rest x → length rows ≤ h.rows
  unfolding RowsEnding
  at_most rows rest x (inl a) = omega (arith, a.0)
  at_most rows rest x (inr a) = omega (arith, a.0)

  -- the rows do not end before a good row, as long as there are to be more
  rows_not_before : (rows : List Joint) (rest : List ℕ) (x : Answer) → RowsEnding h rows rest x → length rows < h.rows → Begun row_bytes RowWithin rest → ⊥
  unfolding RowsEnding
  rows_not_before rows rest x (inl (s, f)) lt b = no_fault row_bytes RowFits RowWithin (Cut 7) row_one (λ j w. w.fits) row_begun (cut_one 7) f.0 rest b f.1
  rows_not_before rows rest x (inr a) lt b = omega (arith, a.0)

  rowed_one : (bytes : List ℕ) (x y : Answer) → Rowed h bytes x → Rowed h bytes y → x ≡ y
  rowed_one bytes x y a b =
      go (compare row_bytes RowFits RowWithin (Cut 7) row_one (λ j w. w.fits) row_begun (cut_one 7)
      a.rows b.rows a.rest b.rest a.within b.within (sym a.split ∙ b.split))
    where
      go : ((a.rows ≡ b.rows) × (a.rest ≡ b.rest)) ⊎
          (((length a.rows < length b.rows) × Begun row_bytes RowWithin a.rest) ⊎
          ((length b.rows < length a.rows) × Begun row_bytes RowWithin b.rest)) → x ≡ y
      go (inl p) =
          rows_ending_one b.rows b.rest x y
          (subst (λ (z : List ℕ). RowsEnding h b.rows z x) p.1 (subst (λ (z : List Joint). RowsEnding h z a.rest x) p.0 a.end)) b.end
      go (inr (inl p)) = absurd (rows_not_before a.rows a.rest x a.end (omega (arith, p.0, at_most b.rows b.rest y b.end)) p.1)
      go (inr (inr p)) = absurd (rows_not_before b.rows b.rest y b.end (omega (arith, p.0, at_most a.rows a.rest x a.end)) p.1)

headed_one : (bytes : List ℕ) (x y : Answer) → Headed bytes x → Headed bytes y → x ≡ y
headed_one bytes x y a b =
    let p = head_one a.head b.head a.rest b.rest (head_fits a.head a.within) (head_fits b.head b.within) (sym a.split ∙ b.split) in
    rowed_one b.head b.rest x y
    (subst (λ (z : List ℕ). Rowed b.head z x) p.1 (subst (λ (z : Head). Rowed z a.rest x) p.0 a.end)) b.end

not_headed : (n : ℕ) (bytes : List ℕ) (x : Answer) → HeadFault n bytes → Headed bytes x → ⊥
not_headed n bytes x f a =
    no_fault head_bytes HeadFits HeadWithin (Cut 7) head_one head_fits head_begun (cut_one 7) n bytes
    record { part = a.head; more = a.rest; good = a.within; begins = a.split } f

staged_one : (bytes : List ℕ) (x y : Answer) → Staged bytes x → Staged bytes y → x ≡ y
unfolding Staged
staged_one bytes x y (inl a) (inl b) = a.1 ∙ sym b.1
staged_one bytes x y (inl a) (inr b) = absurd (omega (arith, a.0, b.0))
staged_one bytes x y (inr a) (inl b) = absurd (omega (arith, a.0, b.0))
staged_one bytes x y (inr (s, inl f)) (inr (t, inl g)) =
    same_fault f.0 g.0 0 x y
    (one_fault head_bytes HeadFits HeadWithin (Cut 7) head_one head_fits head_begun (cut_one 7) f.0 g.0 bytes f.1 g.1) f.2 g.2
staged_one bytes x y (inr (s, inl f)) (inr (t, inr b)) = absurd (not_headed f.0 bytes y f.1 b)
staged_one bytes x y (inr (s, inr a)) (inr (t, inl g)) = absurd (not_headed g.0 bytes x g.1 a)
staged_one bytes x y (inr (s, inr a)) (inr (t, inr b)) = headed_one bytes x y a b

-- every reading goes part by part
staged : (bytes : List ℕ) (x : Answer) → Reads bytes x → Staged bytes x
unfolding Staged Ending RowsEnding
staged bytes (granted c) g =
    inr (
      g.short,
      inr record {
        head = head_of c;
        rest = flat_map row_bytes c.joints ++ flat_map step_bytes c.steps;
        within = g.head;
        split = g.whole ∙ append_assoc (head_bytes (head_of c)) (flat_map row_bytes c.joints) (flat_map step_bytes c.steps);
        end = record {
          rows = c.joints;
          rest = flat_map step_bytes c.steps;
          within = g.rows;
          split = refl;
          end = inr (refl, record { steps = c.steps; rest = []; within = g.steps; split = sym (append-nil (flat_map step_bytes c.steps)); end = inl (refl, refl) });
        };
      },
    )
staged bytes (refused n at) (inl o) = inl (o.long, λ i. refused (o.number i) (o.place i))
staged bytes (refused n at) (inr (inl o)) = inr (o.short, inl (n, o.fault, λ i. refused n (o.place i)))
staged bytes (refused n at) (inr (inr (inl o))) =
    inr (
      o.short,
      inr record {
        head = o.head;
        rest = flat_map row_bytes o.rows ++ o.rest;
        within = o.head_within;
        split = o.whole ∙ append_assoc (head_bytes o.head) (flat_map row_bytes o.rows) o.rest;
        end = record {
          rows = o.rows;
          rest = o.rest;
          within = o.rows_within;
          split = refl;
          end = inl (o.fewer, (n, o.fault, λ i. refused n (o.place i)));
        };
      },
    )
staged bytes (refused n at) (inr (inr (inr o))) =
    inr (
      o.short,
      inr record {
        head = o.head;
        rest = flat_map row_bytes o.rows ++ (flat_map step_bytes o.steps ++ o.rest);
        within = o.head_within;
        split = o.whole ∙ append_assoc (head_bytes o.head ++ flat_map row_bytes o.rows) (flat_map step_bytes o.steps) o.rest ∙
            append_assoc (head_bytes o.head) (flat_map row_bytes o.rows) (flat_map step_bytes o.steps ++ o.rest);
        end = record {
          rows = o.rows;
          rest = flat_map step_bytes o.steps ++ o.rest;
          within = o.rows_within;
          split = refl;
          end = inr (
            o.all_rows,
            record {
              steps = o.steps;
              rest = o.rest;
              within = o.steps_within;
              split = refl;
              end = inr (n, o.fault, λ i. refused n (o.place i));
            },
          );
        };
      },
    )

pub one_reading : OneReading
one_reading bytes x y a b = staged_one bytes x y (staged bytes x a) (staged bytes y b)
