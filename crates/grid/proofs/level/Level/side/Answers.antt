use Rattle.std.proofs.Common.{◌≡◌, ◌+◌, ◌-◌, ◌*◌, ◌%◌, ◌^◌, ◌≤◌, sym, ap, ◌∙◌, arith, pow_mono, pow-add}
use Rattle.grid.proofs.level.Level.side.Goals as goal

pub returns-clause-row : goal.returns-clause-row
returns-clause-row c =
    let l = c.args.self.number in
    let all : l + (18 - l) ≡ 18 = omega arith in
    let within : 18 - l ≤ 18 = omega arith in
    let small : 2 ^ (18 - l) ≤ 2 ^ 18 = pow_mono within in
    let e : 1 * 2 ^ (18 - l) % 4294967296 ≡ 2 ^ (18 - l) = omega (arith, small) in
    rw e (sym (pow-add 2 l (18 - l)) ∙ ap (λ x. 2 ^ x) all)
