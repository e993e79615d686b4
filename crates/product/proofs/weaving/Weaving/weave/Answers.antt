use Rattle.std.proofs.Common.{◌≡◌, ℕ, ◌+◌, ◌-◌, ◌*◌, ◌/◌, ◌^◌, ◌∙◌, arith}
use Rattle.models.specs.Weaving.{weave}
use Rattle.product.proofs.Digits.{below, weave_within, weave_more, weave_all}
use Rattle.product.proofs.weaving.Weaving.weave.Goals as goal

pub digit-low-requires : goal.digit-low-requires
digit-low-requires c =
    let v = c.args.self in
    (omega arith, below v.low (v.low + v.high) v.level c.loop-i.i (omega arith) c.loop-i.auto.i v.fits.3)

pub digit-high-requires : goal.digit-high-requires
digit-high-requires c =
    let v = c.args.self in
    (omega arith, below v.high (v.low + v.high) v.level c.loop-i.i (omega arith) c.loop-i.auto.i v.fits.3)

-- the digits so far and the next
pub followed-number-requires : goal.followed-number-requires
followed-number-requires c =
    let v = c.args.self in
    let j : ℕ = c.loop-i.i - 1 in
    let more = weave_more v.low v.high v.level c.loop-i.i j (omega arith) c.loop-i.auto.i c.args.first c.args.second in
    let is : c.loop-i.number * 2 ^ c.width.result + c.followed-pair.result ≡ weave (2 ^ v.low) (2 ^ v.high) (v.level - j) (c.args.first / 2 ^ (v.low * j)) (c.args.second / 2 ^ (v.high * j)) = cc in
    (omega arith, rw is (weave_within v.low v.high v.level (v.level - j) (c.args.first / 2 ^ (v.low * j)) (c.args.second / 2 ^ (v.high * j)) (omega arith) v.fits.3))

pub loop-i-preserved : goal.loop-i-preserved
loop-i-preserved c =
    let v = c.args.self in
    let more = weave_more v.low v.high v.level c.loop-i.i (c.loop-i.i - 1) (omega arith) c.loop-i.auto.i c.args.first c.args.second in
    cc

pub returns : goal.returns
returns c =
    let v = c.args.self in
    c.loop-i.invariant ∙ weave_all v.low v.high v.level c.loop-i.i c.loop-i-test.false c.args.first c.args.second
