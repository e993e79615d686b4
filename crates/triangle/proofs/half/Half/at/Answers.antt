use Rattle.std.proofs.Common.{ℕ, ◌-◌, ◌*◌, ◌/◌, ◌^◌, sym, ap, ◌∙◌, add-one, arith}
use Rattle.models.specs.Triangle.{triangle_type}
use Rattle.models.proofs.TriangleDigits.{type_one, type_two, type_kept, type_done}
use Rattle.triangle.proofs.half.Half.at.Goals as goal

pub returns-in-1 : goal.returns-in-1
returns-in-1 c = sym (type_one c.args.place.level.number c.loop-i.i c.args.place.number c.loop-i-test.true c.in-1.is) ∙ c.loop-i.invariant

pub returns-in-2 : goal.returns-in-2
returns-in-2 c = sym (type_two c.args.place.level.number c.loop-i.i c.args.place.number c.loop-i-test.true c.in-2.is) ∙ c.loop-i.invariant

pub loop-i-preserved : goal.loop-i-preserved
loop-i-preserved c =
    let l = c.args.place.level.number in
    let p = c.args.place.number in
    let i = c.loop-i.i in
    let next : ℕ → ℕ = λ n. triangle_type (l - n) (p / 2 ^ (2 * n)) in
    ap next (add-one i) ∙ sym (type_kept l i p c.loop-i-test.true (λ e. omega arith) (λ e. omega arith)) ∙ c.loop-i.invariant

pub returns : goal.returns
returns c = sym (type_done c.args.place.level.number c.loop-i.i c.args.place.number c.loop-i-test.false) ∙ c.loop-i.invariant
