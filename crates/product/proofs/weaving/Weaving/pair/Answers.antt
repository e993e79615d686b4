use Rattle.std.proofs.Common.{◌+◌, ◌^◌, ◌≤◌, ap, ◌∙◌, mul_comm, arith, pow_mono}
use Rattle.std.proofs.lemmas.Nat.{shl_below, shl_whole}
use Rattle.product.proofs.weaving.Weaving.pair.Goals as goal

pub overflow_add-result : goal.overflow_add-result
overflow_add-result c =
    let n = c.args.high in
    let k = c.args.self.low in
    let few : 2 + k ≤ 4 = omega arith in
    omega (arith, shl_whole n 2 k 8 (omega arith) (omega arith), shl_below n 2 k (omega arith), pow_mono few)

pub returns : goal.returns
returns c =
    let n = c.args.high in
    let k = c.args.self.low in
    ap (λ z. c.args.low + z) (shl_whole n 2 k 8 (omega arith) (omega arith) ∙ mul_comm n (2 ^ k))
