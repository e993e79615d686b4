use Rattle.std.proofs.Common.{◌≡◌, ℕ, Some, length, take, drop, refl, sym, ap, ◌∙◌, arith}
use Rattle.std.proofs.lemmas.List.{with_items_is}
use Rattle.tiling.specs.Positions.{evenly}
use Rattle.tiling.proofs.Chains.{even_filled}
use Rattle.forest.specs.Planting.{counted, Laid}
use Rattle.forest.proofs.EvenlyPlanted.{Lays, laid_blank, laid_count, answered}
use Rattle.forest.proofs.OnePlanting.{one_planting}
use Rattle.forest.proofs.forest.Forest.plant.Goals as goal

pub invariant_of-forest : goal.invariant_of-forest
invariant_of-forest g c =
    let m = g.S.Scheme.meaning c.args.scheme.now in
    let roots = c.args.mesh.roots in
    let js = c.args.mesh.joints.items in
    let l = c.args.level in
    let items = c.args.memory.items in
    let ws = c.lay-planted.new.records in
    let s = c.of-signature.result in
    let signed = c.of-signature.ensures in
    let is = with_items_is c.args.memory ws (c.lay-planted.auto.records ∙ c.as_mut_slice.ensures.len) in
    let lays : Lays m roots js l (counted items) ws c.lay-planted.result = rw c.as_mut_slice.ensures.value at c.lay-planted.ensures.laid in
    let laid : (n : ℕ) → c.ok.result ≡ Some n → Laid m roots js l (counted items) n ws =
    λ n e. laid_count m roots js l (counted items) ws c.lay-planted.result n lays (sym c.ok.ensures.value ∙ e) in
    let long : length items ≡ c.args.memory.len = ap length (sym c.as_mut_slice.ensures.value) ∙ c.as_mut_slice.ensures.len in
    let even : (n : ℕ) → c.ok.result ≡ Some n → take n ws ≡ evenly roots s.width l = λ n e. (laid n e).even ∙ ap (λ w. evenly roots w l) (sym signed.width) in
    record {
      room = λ n e. (omega (arith, (laid n e).room), omega (arith, (laid n e).room));
      few = λ n e. (laid n e).sound.0.1;
      ground = λ n e. rw (is, even n e) (even_filled s.width s.depth l roots (omega (arith, (laid n e).shallow, signed.depth)));
      blanks = rw (is, c.ok.ensures.value, ← long) (laid_blank m roots js l (counted items) ws c.lay-planted.result lays);
    }

pub returns : goal.returns
returns g c =
    let m = g.S.Scheme.meaning c.args.scheme.now in
    let items = c.args.memory.items in
    let ws = c.lay-planted.new.records in
    let is = with_items_is c.args.memory ws (c.lay-planted.auto.records ∙ c.as_mut_slice.ensures.len) in
    record {
      planted = record {
        answer = answered m c.args.mesh.roots c.args.mesh.joints.items c.args.level (counted items) ws _ c.lay-planted.result c.ok.ensures.value is (rw c.as_mut_slice.ensures.value at c.lay-planted.ensures.laid);
        mesh_kept = refl;
        level_kept = refl;
        signed = c.of-signature.ensures;
        same_long = ap length is ∙ c.lay-planted.auto.records ∙ ap length c.as_mut_slice.ensures.value;
        past = ap (drop (counted items)) is ∙ (rw c.as_mut_slice.ensures.value at c.lay-planted.ensures.past);
      };
      one = one_planting;
    }
