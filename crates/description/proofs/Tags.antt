-- A step's tag, and the value after it.
use Rattle.std.proofs.Common.{◌≡◌, ℕ, ◌≤◌, ◌⊎◌, List, [], ◌∷◌, ◌++◌, length, sym, refl, ap, ◌∙◌, subst, inl, inr, arith, lit≤}
use Rattle.description.specs.declared.reader.Reader.{Reader}
use Rattle.description.specs.declared.step.WindowStep.{WindowStep}
use Rattle.description.specs.declared.step.RangeStep.{RangeStep}
use Rattle.description.specs.declared.step.Step.{Step}
use Rattle.description.specs.declared.step.Step.TheVariants.{Window, Range}
use Rattle.description.specs.Format.{be, window_bytes, range_bytes, step_bytes}
use Rattle.description.specs.Bounds.{WindowFits, WindowWithin, RangeFits, RangeWithin, StepFits, StepWithin}
use Rattle.description.specs.Faults.{Cut, Beyond, StepFault}
use Rattle.description.specs.Passing.{left, Passed}
use Rattle.description.specs.Parts.{FlatWithin}
use Rattle.description.proofs.Passage.{then}

module _ {V : Type 0} (step : V → Step) (bytes : V → List ℕ) (Fits Within : V → Type 0) (scheme tag : ℕ) (known : (tag ≡ 6) ⊎ (tag ≡ 7))
    (front : (v : V) → step_bytes (step v) ≡ tag ∷ bytes v) (fits : (v : V) → Fits v → StepFits (step v)) (within : (v : V) → StepWithin scheme (step v) → Within v) where
  -- a fault of the value after the tag is a fault of the step
  value_fault : (n t : ℕ) {r r' : Reader} → Passed r r' (t ∷ []) → t ≡ tag → Cut 19 n (left r') ⊎ Beyond bytes Fits Within n (left r') → StepFault scheme n (left r)
  value_fault n t {r} {r'} p e (inl cut) =
      inl (inr record { tag = tag; more = left r'; begins = p.split ∙ (λ i. e i ∷ left r'); known = known; cut = record { number = cut.number; short = omega (arith, cut.short, ap length p.split) } })
  value_fault n t {r} {r'} p e (inr o) =
      inr record {
        number = o.number;
        value = step o.value;
        more = o.more;
        begins = p.split ∙ (λ i. e i ∷ o.begins i) ∙ ap (λ (z : List ℕ). z ++ o.more) (sym (front o.value));
        fits = fits o.value o.fits;
        beyond = λ w. o.beyond (within o.value w);
      }

-- a window is granted on a scheme of the plane as on the last of them
flat_within : (scheme : ℕ) (w : WindowStep) → WindowWithin scheme w → FlatWithin w
flat_within scheme w g = record { fits = g.fits; plane = lit≤ tt; target_to = g.target_to; rising_x = g.rising_x; rising_y = g.rising_y; x_to = g.x_to; y_to = g.y_to }

pub within_flat : (scheme : ℕ) (w : WindowStep) → scheme ≤ 3 → FlatWithin w → WindowWithin scheme w
within_flat scheme w flat g = record { fits = g.fits; plane = flat; target_to = g.target_to; rising_x = g.rising_x; rising_y = g.rising_y; x_to = g.x_to; y_to = g.y_to }

pub window_fault : (scheme n t : ℕ) {r r' : Reader} → Passed r r' (t ∷ []) → t ≡ 6 → Cut 19 n (left r') ⊎ Beyond window_bytes WindowFits FlatWithin n (left r') → StepFault scheme n (left r)
unfolding step_bytes be
window_fault scheme = value_fault Window window_bytes WindowFits FlatWithin scheme 6 (inl refl) (λ v. refl) (λ v f. f) (λ v w. flat_within scheme v w)

pub range_fault : (scheme n t : ℕ) {r r' : Reader} → Passed r r' (t ∷ []) → t ≡ 7 → Cut 19 n (left r') ⊎ Beyond range_bytes RangeFits RangeWithin n (left r') → StepFault scheme n (left r)
unfolding step_bytes be
range_fault scheme = value_fault Range range_bytes RangeFits RangeWithin scheme 7 (inr refl) (λ v. refl) (λ v f. f) (λ v w. w)

-- a window of a scheme that is not of the plane
pub solid_window : (scheme t : ℕ) (w : WindowStep) {r r' r'' : Reader} → Passed r r' (t ∷ []) → t ≡ 6 → FlatWithin w → Passed r' r'' (window_bytes w) → (scheme ≤ 3 → ⊥) → StepFault scheme 4 (left r)
unfolding step_bytes be
solid_window scheme t w {r} {r'} {r''} p e g q solid =
    inr record { number = refl; value = Window w; more = left r''; begins = p.split ∙ (λ i. e i ∷ q.split i); fits = g.fits; beyond = λ h. solid h.plane }

-- the tag and the value make the step
pub passed_window : (t : ℕ) (w : WindowStep) {r r' r'' : Reader} → Passed r r' (t ∷ []) → t ≡ 6 → Passed r' r'' (window_bytes w) → Passed r r'' (step_bytes (Window w))
unfolding step_bytes be
passed_window t w {r} {r'} {r''} p e q = subst (λ (z : ℕ). Passed r r'' ((z ∷ []) ++ window_bytes w)) e (then p q)

pub passed_range : (t : ℕ) (w : RangeStep) {r r' r'' : Reader} → Passed r r' (t ∷ []) → t ≡ 7 → Passed r' r'' (range_bytes w) → Passed r r'' (step_bytes (Range w))
unfolding step_bytes be
passed_range t w {r} {r'} {r''} p e q = subst (λ (z : ℕ). Passed r r'' ((z ∷ []) ++ range_bytes w)) e (then p q)
