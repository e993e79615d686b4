use Rattle.std.proofs.Common.{refl, inl}
use Rattle.std.proofs.lemmas.Bool.{both_ways}
use Rattle.mesh.proofs.Verdicts.{one_verdict}
use Rattle.mesh.proofs.Acceptance.{accepted_joined}
use Rattle.mesh.proofs.Sampling.{sample_verdicts}
use Rattle.mesh.proofs.mesh.Mesh.check.Goals as goal

pub returns-then-not-counts_hold : goal.returns-then-not-counts_hold
returns-then-not-counts_hold g c = record {
  verdict = inl (refl, refl, λ k. both_ways c.counts_hold.result c.if-not-counts_hold.true (c.counts_hold.ensures.1 k));
  one = one_verdict;
  accepted = accepted_joined;
  samples = sample_verdicts;
}

pub returns : goal.returns
returns g c = record {
  verdict = c.check_rows.ensures;
  one = one_verdict;
  accepted = accepted_joined;
  samples = sample_verdicts;
}
