use Rattle.std.proofs.Common.{◌≤◌, length, vec_items, arith}
use Rattle.description.specs.Told.{told}
use Rattle.description.specs.Parts.{held}
use Rattle.description.proofs.Whole.{refuses, row_or_memory, step_or_memory}
use Rattle.description.proofs.reading.read_parts.Goals as goal

pub returns-in_err-joints : goal.returns-in_err-joints
returns-in_err-joints c =
    let short : length c.args.bytes.now ≤ 8192 = grind (arith, c.if-is_too_long.ensures) in
    let h = c.in_ok-head.ensures in
    refuses c.args.bytes.now c.from_residual-in_err-joints.result c.in_err-joints.field-0.0 c.from_residual-in_err-joints.ensures.1
    (row_or_memory c.args.bytes.now short c.new-reader.result c.new-reader.ensures.start c.new-reader.ensures.bytes
    (held c.in_ok-head.head) h.0 h.1 (told c.in_err-joints.field-0.0) c.in_err-joints.ensures)

pub returns-in_err-steps : goal.returns-in_err-steps
returns-in_err-steps c =
    let short : length c.args.bytes.now ≤ 8192 = grind (arith, c.if-is_too_long.ensures) in
    let h = c.in_ok-head.ensures in
    refuses c.args.bytes.now c.from_residual-in_err-steps.result c.in_err-steps.field-0.0 c.from_residual-in_err-steps.ensures.1
    (step_or_memory c.args.bytes.now short c.new-reader.result c.new-reader.ensures.start c.new-reader.ensures.bytes
    (held c.in_ok-head.head) h.0 h.1 (vec_items c.in_ok-joints.joints) {r'' = c.rows.new.self} c.in_ok-joints.ensures
    (told c.in_err-steps.field-0.0) c.in_err-steps.ensures)
