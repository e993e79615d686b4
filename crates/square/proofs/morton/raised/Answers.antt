use Rattle.std.proofs.Common.{arith}
use lib.Bits.{or_lt}
use Rattle.square.proofs.morton.raised.Goals as goal

pub overflow_add-result : goal.overflow_add-result
overflow_add-result c = omega (arith, or_lt 36 c.args.place c.args.beside c.requires.place c.requires.beside)
