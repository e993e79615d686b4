-- The format computes: the bytes of a small description.
use Rattle.std.proofs.Common.{refl}
use Rattle.description.specs.Format.{be, head_bytes, row_bytes, step_bytes, range_bytes}
use Rattle.description.specs.Theorems.{TwoLinesEncoded}

pub two_lines_encoded : TwoLinesEncoded
unfolding be head_bytes row_bytes step_bytes range_bytes
two_lines_encoded = refl
