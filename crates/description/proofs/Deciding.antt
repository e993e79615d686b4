-- Whether a value is within its bounds is known.
use Rattle.std.proofs.Common.{ℕ}
use Rattle.std.proofs.Math.Decide.{map_dec, dec_le}
use Rattle.mesh.specs.declared.joint.Joint.{Joint}
use Rattle.description.specs.declared.step.Step.{Step}
use Rattle.description.specs.declared.step.Step.TheVariants.{Window, Range, Balance}
use Rattle.description.specs.Format.{Head}
use Rattle.description.specs.Bounds.{HeadFits, HeadWithin, RowFits, RowWithin, StepFits, StepWithin}

both : {P Q : Type 0} → Dec P → Dec Q → Dec (P × Q)
both (yes p) (yes q) = yes (p, q)
both (yes p) (no q) = no (λ h. q h.1)
both (no p) q = no (λ h. p h.0)

pub head_known : (h : Head) → HeadFits h → Dec (HeadWithin h)
head_known h fits =
    map_dec
    (λ p. record { scheme_from = p.0; scheme_to = p.1.0; roots_from = p.1.1.0; roots_to = p.1.1.1.0; level_to = p.1.1.1.1.0; limit_to = p.1.1.1.1.1.0; rows_to = p.1.1.1.1.1.1 })
    (λ w. (w.scheme_from, (w.scheme_to, (w.roots_from, (w.roots_to, (w.level_to, (w.limit_to, w.rows_to)))))))
    (both (dec_le 1 h.scheme) (both (dec_le h.scheme 5) (both (dec_le 1 h.roots) (both (dec_le h.roots 256) (both (dec_le h.level 18) (both (dec_le h.limit 18) (dec_le h.rows 1024)))))))

pub row_known : (j : Joint) → RowFits j → Dec (RowWithin j)
row_known j fits = map_dec (λ p. record { fits = fits; turn_to = p }) (λ w. w.turn_to) (dec_le j.turn 1)

pub step_known : (scheme : ℕ) (s : Step) → StepFits s → Dec (StepWithin scheme s)
step_known scheme (Window w) fits =
    map_dec
    (λ p. record { fits = fits; plane = p.0; target_to = p.1.0; rising_x = p.1.1.0; rising_y = p.1.1.1.0; x_to = p.1.1.1.1.0; y_to = p.1.1.1.1.1 })
    (λ w. (w.plane, (w.target_to, (w.rising_x, (w.rising_y, (w.x_to, w.y_to))))))
    (both (dec_le scheme 3) (both (dec_le w.target 18) (both (dec_le w.x0 w.x1) (both (dec_le w.y0 w.y1) (both (dec_le w.x1 262144) (dec_le w.y1 262144))))))
step_known scheme (Range r) fits =
    map_dec (λ p. record { fits = fits; target_to = p.0; rising = p.1 }) (λ w. (w.target_to, w.rising)) (both (dec_le r.target 18) (dec_le r.first r.last))
step_known scheme Balance fits = yes tt
