use mathlib.Core.Path.{refl}
use native.Mathlib.Omega.{arith}
use Rattle.row_text.proofs.PrintLaws.{rows_printed}
use borrow.Author.Rules.{rules}
use Rattle.row_text.proofs.print_rows.Goals as goal

pub returns : goal.returns
returns c = rows_printed _ _ _ _ _ _ _ _ _ c.requires refl (search rules) (omega arith) (omega arith) c.bytes.ensures c.number.ensures c.byte.ensures c.print_clauses.ensures
