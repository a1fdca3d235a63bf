use native.Mathlib.Omega.{arith}
use Rattle.row_text.proofs.PrintLaws.{refused_printed}
use Rattle.row_text.proofs.print_refused.Goals as goal

pub returns : goal.returns
returns c = refused_printed _ _ _ _ _ _ c.from.ensures (omega arith) c.bytes.ensures c.number.ensures c.byte.ensures
