use Rattle.std.proofs.Common.{arith}
use Rattle.witness_text.proofs.CountLaws.{counts-leaves, counts_fit}
use Rattle.witness_read.proofs.tail.check_marked.Goals as goal

pub overflow_add-leaves : goal.overflow_add-leaves
overflow_add-leaves c = search counts_fit

pub check_with-requires-2-clause-room : goal.check_with-requires-2-clause-room
check_with-requires-2-clause-room c = (counts-leaves _ c.requires, omega (arith, counts-leaves _ c.requires))
