use Rattle.std.proofs.Common.{◌≡◌, ℕ, ◌-◌, ◌*◌, ◌%◌, ◌^◌, ◌<◌, sym, ap, ◌∙◌, arith}
use Rattle.std.proofs.lemmas.Nat.{one_shl}
use Rattle.std.proofs.lemmas.Bool.{ltb-true, lt-ltb}
use Rattle.scheme.specs.Scheme.{h}
use Rattle.scheme.proofs.Powers.{pow_mul}
use Rattle.mesh.proofs.Edges.{few_bits}
use Rattle.mesh.proofs.cross.has_edge.Goals as goal

pub returns : goal.returns
returns g c =
    let m = g.S.Scheme.meaning c.args.scheme.now in
    let l = c.args.level in
    let n = c.args.edge.1 in
    let bits = (c.width.result - 1) * l in
    let few : bits < 64 = omega (arith, few_bits c.width.result l c.width.ensures.bounds.1 (omega (arith, c.depth.ensures.bounds))) in
    let shifted : (1 * 2 ^ bits) % 2 ^ 64 ≡ 2 ^ bits = one_shl bits 64 few in
    let wide : h m ^ l ≡ 2 ^ bits = sym (pow_mul 2 (m.w - 1) l) ∙ ap (λ (w : ℕ). 2 ^ ((w - 1) * l)) (sym c.width.ensures.value) in (
      λ t. (omega (arith, c.depth.ensures.value), omega (arith, c.faces.ensures.value), omega (arith, ltb-true n ((1 * 2 ^ bits) % 2 ^ 64) t, shifted, wide)),
      λ x. lt-ltb n ((1 * 2 ^ bits) % 2 ^ 64) (omega (arith, x.2, shifted, wide)),
    )
