use Rattle.std.proofs.Common.{◌≡◌, ◌+◌, ◌-◌, ◌*◌, ◌/◌, ◌^◌}
use Rattle.models.specs.Weaving.{left, right}
use Rattle.product.proofs.weaving.Weaving.split.Given as goal

-- the digits from i on are taken apart
abbrev pub invariant-loop-i : goal.invariant-loop-i
invariant-loop-i l =
    (l.first ≡ left (2 ^ l.self.low) (2 ^ l.self.high) (l.self.level - l.i) (l.number / 2 ^ ((l.self.low + l.self.high) * l.i))) ×
    (l.second ≡ right (2 ^ l.self.low) (2 ^ l.self.high) (l.self.level - l.i) (l.number / 2 ^ ((l.self.low + l.self.high) * l.i)))
