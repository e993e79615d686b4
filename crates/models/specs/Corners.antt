-- Corners on a face: which points lie on a segment, and how many of a cell's corners do.
use Rattle.std.specs.Prelude.{ℕ, zero, suc, ◌+◌, ◌-◌, ◌*◌, Bool, cond, ◌&&◌, ◌==◌, nat_le}

-- q lies on the segment from a to b, where b is neither left of a nor below it
abbrev pub on_segment : ℕ × ℕ → ℕ × ℕ → ℕ × ℕ → Bool
on_segment a b q =
    nat_le a.0 q.0 && (nat_le q.0 b.0 && (nat_le a.1 q.1 && (nat_le q.1 b.1 &&
    ((q.0 - a.0) * (b.1 - a.1) == (q.1 - a.1) * (b.0 - a.0)))))

-- how many of the corners 0 .. n − 1 lie on the segment from a to b
abbrev pub corners_on : ℕ × ℕ → ℕ × ℕ → (ℕ → ℕ × ℕ) → ℕ → ℕ
corners_on a b c zero = 0
corners_on a b c (suc n) = corners_on a b c n + cond (on_segment a b (c n)) 1 0
