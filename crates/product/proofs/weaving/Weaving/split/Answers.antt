use Rattle.std.proofs.Common.{◌≡◌, ℕ, ◌+◌, ◌-◌, ◌*◌, ◌/◌, ◌^◌, ◌∙◌, arith}
use Rattle.models.specs.Weaving.{left, right}
use Rattle.product.proofs.Digits.{below, left_within, right_within, left_more, right_more, left_all, right_all}
use Rattle.product.proofs.weaving.Weaving.split.Goals as goal

pub digit-pair-requires : goal.digit-pair-requires
digit-pair-requires c =
    let v = c.args.self in
    (omega arith, below c.width.result (v.low + v.high) v.level c.loop-i.i (omega arith) c.loop-i.auto.i v.fits.3)

-- the digits so far and the next
pub followed-first-requires : goal.followed-first-requires
followed-first-requires c =
    let v = c.args.self in
    let j : ℕ = c.loop-i.i - 1 in
    let n : ℕ = c.args.number / 2 ^ ((v.low + v.high) * j) in
    let more = left_more v.low v.high v.level c.loop-i.i j (omega arith) c.loop-i.auto.i c.args.number in
    let is : c.loop-i.first * 2 ^ v.low + c.lowest.result ≡ left (2 ^ v.low) (2 ^ v.high) (v.level - j) n = cc in
    (omega arith, rw is (left_within v.low v.high v.level (v.level - j) n (omega arith) v.fits.3))

pub followed-second-requires : goal.followed-second-requires
followed-second-requires c =
    let v = c.args.self in
    let j : ℕ = c.loop-i.i - 1 in
    let n : ℕ = c.args.number / 2 ^ ((v.low + v.high) * j) in
    let more = right_more v.low v.high v.level c.loop-i.i j (omega arith) c.loop-i.auto.i c.args.number in
    let is : c.loop-i.second * 2 ^ v.high + c.digit-pair.result / 2 ^ v.low ≡ right (2 ^ v.low) (2 ^ v.high) (v.level - j) n = cc in
    (omega arith, rw is (right_within v.low v.high v.level (v.level - j) n (omega arith) v.fits.3))

pub loop-i-preserved : goal.loop-i-preserved
loop-i-preserved c =
    let v = c.args.self in
    let more = left_more v.low v.high v.level c.loop-i.i (c.loop-i.i - 1) (omega arith) c.loop-i.auto.i c.args.number in
    let more' = right_more v.low v.high v.level c.loop-i.i (c.loop-i.i - 1) (omega arith) c.loop-i.auto.i c.args.number in
    ((cc), (cc))

pub returns : goal.returns
returns c =
    let v = c.args.self in
    record {
      first = c.loop-i.invariant.0 ∙ left_all v.low v.high v.level c.loop-i.i c.loop-i-test.false c.args.number;
      second = c.loop-i.invariant.1 ∙ right_all v.low v.high v.level c.loop-i.i c.loop-i-test.false c.args.number;
    }
