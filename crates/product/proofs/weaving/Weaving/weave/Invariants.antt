use Rattle.std.proofs.Common.{◌≡◌, ◌-◌, ◌*◌, ◌/◌, ◌^◌}
use Rattle.models.specs.Weaving.{weave}
use Rattle.product.proofs.weaving.Weaving.weave.Given as goal

-- the digits from i on are woven
abbrev pub invariant-loop-i : goal.invariant-loop-i
invariant-loop-i l = l.number ≡ weave (2 ^ l.self.low) (2 ^ l.self.high) (l.self.level - l.i) (l.first / 2 ^ (l.self.low * l.i)) (l.second / 2 ^ (l.self.high * l.i))
