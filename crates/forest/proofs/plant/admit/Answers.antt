use Rattle.std.proofs.Common.{◌≡◌, ◌*◌, ◌^◌, ◌<◌, ◌≤◌, ap, ◌∙◌, inl, inr, arith}
use Rattle.std.proofs.lemmas.Bool.{both_ways, cases_lt}
use Rattle.scheme.specs.Scheme.{k}
use Rattle.scheme.proofs.Powers.{pow_mul}
use Rattle.forest.proofs.plant.admit.Goals as goal

pub returns-then-not-fits : goal.returns-then-not-fits
returns-then-not-fits g c =
    let m = g.S.Scheme.meaning c.args.scheme.now in
    let roots = c.args.mesh.now.roots in
    let l = c.args.level in
    let shallow : l ≤ m.D = omega (arith, c.if-level-depth.false, c.depth.ensures.value) in
    let count : roots * 2 ^ (c.width.result * l) ≡ roots * k m ^ l = ap (λ w. roots * 2 ^ (w * l)) c.width.ensures.value ∙ ap (λ n. roots * n) (pow_mul 2 m.w l) in
    let over : c.args.cap < roots * 2 ^ (c.width.result * l) = elim (cases_lt c.args.cap (roots * 2 ^ (c.width.result * l))) [
      | inl lt ↦ lt
      | inr le ↦ absurd (both_ways c.fits.result c.if-not-fits.true (c.fits.ensures.1 le))
    ] in
    (c.in_ok-check.ensures.verdict, shallow, omega arith)
