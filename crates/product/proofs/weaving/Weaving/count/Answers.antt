use Rattle.std.proofs.Common.{ℕ, ◌+◌, ◌*◌, ◌<◌, ◌∙◌, arith}
use Rattle.std.proofs.lemmas.Nat.{one_shl}
use Rattle.scheme.proofs.Powers.{pow_mul}
use Rattle.product.proofs.weaving.Weaving.count.Goals as goal

pub returns : goal.returns
returns c =
    let v = c.args.self in
    let w : ℕ = v.low + v.high in
    let few : w * v.level < 64 = omega (arith, v.fits.3) in
    rw c.width.ensures (one_shl (w * v.level) 64 few ∙ pow_mul 2 w v.level)
