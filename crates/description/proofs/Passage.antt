-- A reader's way over its input, part by part.
use Rattle.std.proofs.Common.{◌≡◌, ℕ, ◌+◌, List, ◌++◌, length, sym, ap, ◌∙◌, append_assoc, arith, length-append}
use Rattle.description.specs.declared.reader.Reader.{Reader}
use Rattle.description.specs.Passing.{left, Passed}

-- one part and then another
pub then : {r r' r'' : Reader} {part more : List ℕ} → Passed r r' part → Passed r' r'' more → Passed r r'' (part ++ more)
then {r} {r'} {r''} {part} {more} p q =
    record {
      same = q.same ∙ p.same;
      next = omega (arith, length-append part more, p.next, q.next);
      split = p.split ∙ ap (λ (z : List ℕ). part ++ z) q.split ∙ sym (append_assoc part more (left r''));
    }

-- so many bytes fewer are left
pub fewer : {r r' : Reader} {part : List ℕ} → Passed r r' part → length (left r) ≡ length part + length (left r')
fewer {r} {r'} {part} p = ap length p.split ∙ length-append part (left r')
