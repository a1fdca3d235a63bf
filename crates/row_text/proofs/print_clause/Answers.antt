use Rattle.row_text.proofs.PrintLaws.{clause_printed}
use Rattle.row_text.proofs.print_clause.Goals as goal

pub returns : goal.returns
returns c = search clause_printed
