use Rattle.std.proofs.Common.{vec_items}
use Rattle.description.specs.Parts.{RowsRead}
use Rattle.description.proofs.reader.Reader.rows.Given as goal

-- the rows so far
abbrev pub invariant-loop : goal.invariant-loop
invariant-loop l = RowsRead l.counter l.initial.self l.self (vec_items l.joints)
