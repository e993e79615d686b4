-- Every list of bytes has a reading.
use Rattle.std.proofs.Common.{◌≡◌, ℕ, zero, suc, ◌<◌, ◌≤◌, ◌⊎◌, List, [], ◌∷◌, ◌++◌, length, sym, refl, ap, ◌∙◌, subst, inl, inr, append_assoc, append-nil, arith, length-append}
use Rattle.std.specs.List.{All, flat_map}
use Rattle.std.proofs.lemmas.List.Elements.{All-nil, All-cons}
use Rattle.std.proofs.lemmas.Bool.{cases_lt, cases_eq}
use Rattle.description.specs.declared.step.Step.TheVariants.{Window, Range, Balance}
use Rattle.description.specs.Format.{Head, be, head_bytes, row_bytes, window_bytes, range_bytes, step_bytes}
use Rattle.description.specs.Bounds.{HeadFits, HeadWithin, RowFits, RowWithin, WindowFits, RangeFits, StepFits, StepWithin}
use Rattle.description.specs.Faults.{Cut, Beyond, TagFault, HeadFault, RowFault, StepFault}
use Rattle.description.specs.Reading.{Answer, granted, refused, Reads}
use Rattle.description.specs.Theorems.{SomeReading}
use Rattle.description.proofs.Following.{step_some}
use Rattle.description.proofs.Fronts.{Bytes, bytes_after, on, Front, head_at, row_at, window_at, range_at}
use Rattle.description.proofs.Deciding.{head_known, row_known, step_known}

-- a good part at the front, or a fault
abbrev Judged : {V : Type 0} → (V → List ℕ) → (V → Type 0) → (ℕ → List ℕ → Type 0) → List ℕ → Type 0
Judged bytes Good Fault bs = Front bytes Good bs ⊎ ((n : ℕ) × Fault n bs)

judge : {V : Type 0} (bytes : V → List ℕ) (Fits Good : V → Type 0) (Early : ℕ → List ℕ → Type 0) → ((v : V) → Fits v → Dec (Good v)) →
    (bs : List ℕ) → Judged bytes Fits Early bs → Judged bytes Good (λ n bs. Early n bs ⊎ Beyond bytes Fits Good n bs) bs
judge bytes Fits Good Early known bs (inr e) = inr (e.0, inl e.1)
judge bytes Fits Good Early known bs (inl f) = elim (known f.value f.holds) [
  | yes good ↦ inl record { value = f.value; rest = f.rest; holds = good; split = f.split; are_bytes = f.are_bytes }
  | no bad ↦ inr (4, inr record { number = refl; value = f.value; more = f.rest; begins = f.split.is; fits = f.holds; beyond = bad })
]

-- a part of n bytes is cut off, or a value of it stands at the front
sized : {V : Type 0} (bytes : V → List ℕ) (Fits : V → Type 0) (n : ℕ) → ((bs : List ℕ) → Bytes bs → n ≤ length bs → Front bytes Fits bs) → (bs : List ℕ) → Bytes bs →
    Judged bytes Fits (Cut n) bs
sized bytes Fits n at bs all = elim (cases_lt (length bs) n) [
  | inl lt ↦ inr (1, record { number = refl; short = lt })
  | inr ge ↦ inl (at bs all ge)
]

head_judged : (bs : List ℕ) → Bytes bs → Judged head_bytes HeadWithin HeadFault bs
head_judged bs all = judge head_bytes HeadFits HeadWithin (Cut 7) head_known bs (sized head_bytes HeadFits 7 head_at bs all)

row_judged : (bs : List ℕ) → Bytes bs → Judged row_bytes RowWithin RowFault bs
row_judged bs all = judge row_bytes RowFits RowWithin (Cut 7) row_known bs (sized row_bytes RowFits 7 row_at bs all)

-- a step of a known tag that is not cut off, or what is amiss with it
tag_judged : (b : ℕ) (bs : List ℕ) → Bytes (b ∷ bs) → Judged step_bytes StepFits TagFault (b ∷ bs)
unfolding step_bytes be
tag_judged b bs all = elim (cases_eq b 6) [
  | inl e ↦ elim (cases_lt (length (b ∷ bs)) 20) [
    | inl lt ↦ inr (1, inr record { tag = b; more = bs; begins = refl; known = inl e; cut = record { number = refl; short = lt } })
    | inr ge ↦ inl (windowed e (window_at bs (bytes_after b bs all) (omega arith)))
  ]
  | inr n₆ ↦ elim (cases_eq b 7) [
    | inl e ↦ elim (cases_lt (length (b ∷ bs)) 20) [
      | inl lt ↦ inr (1, inr record { tag = b; more = bs; begins = refl; known = inr e; cut = record { number = refl; short = lt } })
      | inr ge ↦ inl (ranged e (range_at bs (bytes_after b bs all) (omega arith)))
    ]
    | inr n₇ ↦ elim (cases_eq b 8) [
      | inl e ↦ inl record { value = Balance; rest = bs; holds = tt; split = record { is = ap (λ (z : ℕ). z ∷ bs) e }; are_bytes = (bytes_after b bs all) }
      | inr n₈ ↦ inr (2, inl record { number = refl; tag = b; more = bs; begins = refl; not_window = n₆; not_range = n₇; not_balance = n₈ })
    ]
  ]
]
  where
    windowed : b ≡ 6 → Front window_bytes WindowFits bs → Front step_bytes StepFits (b ∷ bs)
    windowed e f = record { value = Window f.value; rest = f.rest; holds = f.holds; split = record { is = λ i. e i ∷ f.split.is i }; are_bytes = f.are_bytes }

    ranged : b ≡ 7 → Front range_bytes RangeFits bs → Front step_bytes StepFits (b ∷ bs)
    ranged e f = record { value = Range f.value; rest = f.rest; holds = f.holds; split = record { is = λ i. e i ∷ f.split.is i }; are_bytes = f.are_bytes }

-- good parts at the front
record Fronts {V : Type 0} (bytes : V → List ℕ) (Good : V → Type 0) (bs : List ℕ) : Type 0 where
  parts : List V
  rest : List ℕ
  within : All Good parts
  split : bs ≡ flat_map bytes parts ++ rest
  are_bytes : Bytes rest

abbrev none : {V : Type 0} (bytes : V → List ℕ) (Good : V → Type 0) (bs : List ℕ) → Bytes bs → Fronts bytes Good bs
none bytes Good bs all = record { parts = []; rest = bs; within = All-nil Good; split = refl; are_bytes = all }

-- one in front of others
abbrev more : {V : Type 0} (bytes : V → List ℕ) (Good : V → Type 0) (bs : List ℕ) (f : Front bytes Good bs) → Fronts bytes Good f.rest → Fronts bytes Good bs
more bytes Good bs f fs = record {
  parts = f.value ∷ fs.parts;
  rest = fs.rest;
  within = All-cons Good f.value fs.parts f.holds fs.within;
  split = f.split.is ∙ ap (λ (z : List ℕ). bytes f.value ++ z) fs.split ∙ sym (append_assoc (bytes f.value) (flat_map bytes fs.parts) fs.rest);
  are_bytes = fs.are_bytes;
}

-- as many rows as the head counts, or fewer and a fault
abbrev RowsJudged : ℕ → List ℕ → Type 0
RowsJudged count bs =
    ((f : Fronts row_bytes RowWithin bs) × (length f.parts ≡ count)) ⊎
    ((f : Fronts row_bytes RowWithin bs) × (length f.parts < count) × ((n : ℕ) × RowFault n f.rest))

rows_judged : (count : ℕ) (bs : List ℕ) → Bytes bs → RowsJudged count bs
rows_judged zero bs all = inl (none row_bytes RowWithin bs all, refl)
rows_judged (suc count) bs all = elim (row_judged bs all) [
  | inr e ↦ inr (none row_bytes RowWithin bs all, omega arith, e)
  | inl f ↦ elim (rows_judged count f.rest f.are_bytes) [
    | inl g ↦ inl (more row_bytes RowWithin bs f g.0, ap suc g.1)
    | inr g ↦ inr (more row_bytes RowWithin bs f g.0, omega (arith, g.1), g.2)
  ]
]

-- steps to the end of the input, or to a fault
abbrev StepsJudged : ℕ → List ℕ → Type 0
StepsJudged scheme bs =
    ((f : Fronts step_bytes (StepWithin scheme) bs) × (f.rest ≡ [])) ⊎
    ((f : Fronts step_bytes (StepWithin scheme) bs) × ((n : ℕ) × StepFault scheme n f.rest))

-- each step takes a byte at least
steps_judged : (scheme fuel : ℕ) (bs : List ℕ) → length bs ≤ fuel → Bytes bs → StepsJudged scheme bs
steps_judged scheme fuel [] room all = inl (none step_bytes (StepWithin scheme) [] all, refl)
steps_judged scheme zero (b ∷ bs) room all = absurd (omega arith)
steps_judged scheme (suc fuel) (b ∷ bs) room all = elim (judge step_bytes StepFits (StepWithin scheme) TagFault (step_known scheme) (b ∷ bs) (tag_judged b bs all)) [
  | inr e ↦ inr (none step_bytes (StepWithin scheme) (b ∷ bs) all, e)
  | inl f ↦ elim (steps_judged scheme fuel f.rest (omega (arith, ap length f.split.is, length-append (step_bytes f.value) f.rest, step_some f.value)) f.are_bytes) [
    | inl g ↦ inl (more step_bytes (StepWithin scheme) (b ∷ bs) f g.0, g.1)
    | inr g ↦ inr (more step_bytes (StepWithin scheme) (b ∷ bs) f g.0, g.1)
  ]
]

module _ (bytes : List ℕ) (short : length bytes ≤ 8192) (h : Front head_bytes HeadWithin bytes) where
  with_steps : (rows : Fronts row_bytes RowWithin h.rest) → length rows.parts ≡ h.value.rows → StepsJudged h.value.scheme rows.rest → (x : Answer) × Reads bytes x
  with_steps rows all (inl s) = (
    granted record { scheme = h.value.scheme; roots = h.value.roots; level = h.value.level; limit = h.value.limit; joints = rows.parts; steps = s.0.parts },
    record {
      short = short;
      head = subst HeadWithin (sym same) h.holds;
      rows = rows.within;
      steps = s.0.within;
      whole = before ∙ ap (λ (z : List ℕ). head_bytes h.value ++ flat_map row_bytes rows.parts ++ z) end ∙
          ap (λ (z : Head). head_bytes z ++ flat_map row_bytes rows.parts ++ flat_map step_bytes s.0.parts) (sym same);
    },
  )
    where
      same : ◌≡◌ {A = Head} (record { scheme = h.value.scheme; roots = h.value.roots; level = h.value.level; limit = h.value.limit; rows = length rows.parts }) h.value
      same = λ i. record { scheme = h.value.scheme; roots = h.value.roots; level = h.value.level; limit = h.value.limit; rows = all i }

      before : bytes ≡ head_bytes h.value ++ flat_map row_bytes rows.parts ++ rows.rest
      before = (on h.split (record { is = rows.split })).is

      end : rows.rest ≡ flat_map step_bytes s.0.parts
      end = s.0.split ∙ ap (λ (z : List ℕ). flat_map step_bytes s.0.parts ++ z) s.1 ∙ append-nil (flat_map step_bytes s.0.parts)
  with_steps rows all (inr s) = (
    refused s.1.0 (length (head_bytes h.value ++ flat_map row_bytes rows.parts ++ flat_map step_bytes s.0.parts)),
    inr (inr (inr record {
      short = short;
      head = h.value;
      rows = rows.parts;
      steps = s.0.parts;
      rest = s.0.rest;
      head_within = h.holds;
      rows_within = rows.within;
      all_rows = all;
      steps_within = s.0.within;
      whole = (on (on h.split (record { is = rows.split })) (record { is = s.0.split })).is;
      place = refl;
      fault = s.1.1;
    })),
  )

  with_head : RowsJudged h.value.rows h.rest → (x : Answer) × Reads bytes x
  with_head (inl r) = with_steps r.0 r.1 (steps_judged h.value.scheme (length r.0.rest) r.0.rest (omega arith) r.0.are_bytes)
  with_head (inr r) = (
    refused r.2.0 (length (head_bytes h.value ++ flat_map row_bytes r.0.parts)),
    inr (inr (inl record {
      short = short;
      head = h.value;
      rows = r.0.parts;
      rest = r.0.rest;
      head_within = h.holds;
      rows_within = r.0.within;
      fewer = r.1;
      whole = (on h.split (record { is = r.0.split })).is;
      place = refl;
      fault = r.2.1;
    })),
  )

pub some_reading : SomeReading
some_reading bytes all = elim (cases_lt 8192 (length bytes)) [
  | inl long ↦ (refused 5 0, inl record { long = long; number = refl; place = refl })
  | inr short ↦ elim (head_judged bytes all) [
    | inr e ↦ (refused e.0 0, inr (inl record { short = short; place = refl; fault = e.1 }))
    | inl h ↦ with_head bytes short h (rows_judged h.value.rows h.rest h.are_bytes)
  ]
]
