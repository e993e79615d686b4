use Rattle.std.proofs.Common.{[], ◌∷◌, rules, subst}
use Rattle.description.specs.Passing.{Passed}
use Rattle.description.specs.Format.{scheme_of, be, step_bytes}
use Rattle.description.proofs.Following.{at_err}
use Rattle.description.proofs.Tags.{within_flat, window_fault, range_fault, solid_window, passed_window, passed_range}
use Rattle.description.proofs.reader.Reader.step.Goals as goal

pub returns-in_err-window-in-6 : goal.returns-in_err-window-in-6
returns-in_err-window-in-6 c =
    let h = c.in_err-window-in-6.ensures in
    at_err c.from_residual.result _ _ c.in_err-window-in-6.field-0.0 c.from_residual.ensures.1
    (h.0, window_fault (scheme_of c.args.shape) _ c.in-Some.tag c.in-Some.ensures c.in-6.is h.1)

pub returns-then-not-is_flat : goal.returns-then-not-is_flat
returns-then-not-is_flat c =
    let h = c.in_ok-window-in-6.ensures in
    (search rules, solid_window (scheme_of c.args.shape) c.in-Some.tag c.in_ok-window-in-6.window c.in-Some.ensures c.in-6.is h.0 h.1 (λ flat. search (rules, c.if-not-is_flat.ensures.1 flat)))

pub returns-else-not-is_flat : goal.returns-else-not-is_flat
returns-else-not-is_flat c =
    let h = c.in_ok-window-in-6.ensures in
    (within_flat _ _ (c.if-not-is_flat.ensures.0 (search rules)) h.0, passed_window c.in-Some.tag _ c.in-Some.ensures c.in-6.is h.1)

pub returns-in_err-part-in-7 : goal.returns-in_err-part-in-7
returns-in_err-part-in-7 c =
    let h = c.in_err-part-in-7.ensures in
    at_err c.from_residual-in_err-part-in-7.result _ _ c.in_err-part-in-7.field-0.0 c.from_residual-in_err-part-in-7.ensures.1
    (h.0, range_fault (scheme_of c.args.shape) _ c.in-Some.tag c.in-Some.ensures c.in-7.is h.1)

pub returns-in_ok-part-in-7 : goal.returns-in_ok-part-in-7
returns-in_ok-part-in-7 c = let h = c.in_ok-part-in-7.ensures in (h.0, passed_range c.in-Some.tag _ c.in-Some.ensures c.in-7.is h.1)

pub returns-in-8 : goal.returns-in-8
unfolding step_bytes be
returns-in-8 c = (tt, subst (λ t. Passed c.args.self.now c.byte.new.self (t ∷ [])) c.in-8.is c.in-Some.ensures)
