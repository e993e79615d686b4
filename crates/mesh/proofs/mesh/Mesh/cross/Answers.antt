use Rattle.std.proofs.lemmas.Bool.{both_ways}
use Rattle.mesh.proofs.Leading.{one_crossing, leads_back, crosses_iff_over, leads_over}
use Rattle.mesh.proofs.Sampling.{sample_crossings}
use Rattle.mesh.proofs.mesh.Mesh.cross.Goals as goal

pub returns-then-not-has_edge : goal.returns-then-not-has_edge
returns-then-not-has_edge g c = record {
  crossed = λ r' b n' x. both_ways c.has_edge.result c.if-not-has_edge.true (c.has_edge.ensures.1 x.there);
  one = one_crossing;
  back = leads_back;
  over = crosses_iff_over;
  everywhere = leads_over;
  samples = sample_crossings;
}

pub returns : goal.returns
returns g c = record {
  crossed = c.cross_rows.ensures;
  one = one_crossing;
  back = leads_back;
  over = crosses_iff_over;
  everywhere = leads_over;
  samples = sample_crossings;
}
