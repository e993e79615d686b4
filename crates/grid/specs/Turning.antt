-- Turning an edge of squares and triangles over.
use Rattle.std.specs.Prelude.{ℕ, ◌-◌, ◌^◌}

-- level, edge number: n becomes 2^l − 1 − n
abbrev pub turn_over : ℕ → ℕ → ℕ
turn_over l n = 2 ^ l - 1 - n
