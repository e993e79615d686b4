use Rattle.std.proofs.Common.{◌≡◌, ◌*◌, ◌^◌, ◌≤◌, length, take, length-take, ap, ◌∙◌, arith}
use Rattle.std.proofs.lemmas.List.{take-append-le}
use Rattle.scheme.proofs.Powers.{pow_mul}
use Rattle.forest.specs.Planting.{counted}
use Rattle.forest.proofs.Overlaid.{blank_before}
use Rattle.forest.proofs.plant.lay.Goals as goal

pub returns-in-Ok-clause-laid : goal.returns-in-Ok-clause-laid
returns-in-Ok-clause-laid g c =
    let m = g.S.Scheme.meaning c.args.scheme.now in
    let ok = c.in-Ok.ensures in
    let front = c.fill.new.records in
    let n = c.fill.result in
    let cap = counted c.args.records.now in
    let lent : length (take c.min-cap.result c.args.records.now) ≡ cap = omega (arith, length-take c.min-cap.result c.args.records.now) in
    let long : length front ≡ cap = c.fill.auto.records ∙ lent in
    let roots = c.args.mesh.now.roots in
    let l = c.args.level in
    let count : n ≡ roots * 2 ^ (m.w * l) = rw (ok.all_roots, ok.by_width, ok.to_level) at c.fill.ensures.count in
    let room : n ≤ length front = omega arith in
    record {
      sound = ok.sound;
      shallow = ok.shallow;
      count = count ∙ ap (λ x. roots * x) (pow_mul 2 m.w l);
      room = omega arith;
      even = take-append-le n front _ room ∙ (rw (ok.all_roots, ok.by_width, ok.to_level) at c.fill.ensures.front);
      rest = blank_before front _ n cap (omega arith) (omega arith) (rw lent at c.fill.ensures.rest);
    }
