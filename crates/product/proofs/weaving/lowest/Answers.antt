use Rattle.std.proofs.lemmas.Nat.{one_shl, and_mask}
use Rattle.std.proofs.Common.{◌<◌, arith}
use Rattle.product.proofs.weaving.lowest.Goals as goal

pub returns : goal.returns
returns c = let few : c.args.bits < 64 = omega arith in rw (one_shl c.args.bits 64 few) (and_mask c.args.number c.args.bits)
