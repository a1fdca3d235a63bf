use Rattle.std.proofs.Common.{arith}
use Rattle.witness_read.proofs.tail.check_with.Goals as goal

pub whole_as_slice-check_symbols : goal.whole_as_slice-check_symbols
whole_as_slice-check_symbols g c = omega (arith, c.requires.few)
