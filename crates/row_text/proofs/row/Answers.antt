use native.Mathlib.Omega.{arith}
use Rattle.row_text.proofs.RowLaws.{row-some}
use borrow.Author.Rules.{rules}
use Rattle.row_text.proofs.row.Goals as goal

pub returns : goal.returns
returns c = row-some _ _ _ _ (omega arith) (omega arith) c.print_text.ensures.few (search rules)
