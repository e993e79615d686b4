-- A lawful flat scheme answers with few faces and few children: each below 4.
use Rattle.std.proofs.Common.{◌≡◌, ℕ, ◌^◌, ◌<◌, ◌≤◌, Some, sym, arith, pow_mono}
use Rattle.scheme.specs.Scheme.{Model, Lawful}
use Rattle.scheme.specs.Plan.{Flat}
use Rattle.scheme.proofs.Answered.{at_in, child_in}

module _ (m : Model) (ok : Lawful m) (flat : Flat m) where
  pub edge_few : (l g n q f : ℕ) → Some (q, f) ≡ m.at_edge l g n → f < 4
  edge_few l g n q f e = omega (arith, (at_in m ok.bounded l g n q f (sym e)).4, flat.few)

  pub child_few : (l p f j i a : ℕ) → Some (i, a) ≡ m.face_child l p f j → (i < 4) × (a < 4)
  child_few l p f j i a e =
      let all = child_in m ok.bounded l p f j i a (sym e) in
      let four : 2 ^ m.w ≤ 4 = pow_mono flat.narrow in
      (omega (arith, all.4, four), omega (arith, all.5, flat.few))
