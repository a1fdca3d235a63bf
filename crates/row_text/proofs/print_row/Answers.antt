use Rattle.row_text.proofs.MadeLaws.{made_standing, made_printed}
use Rattle.row_text.proofs.print_row.Goals as goal

pub print_made-requires : goal.print_made-requires
print_made-requires c = made_standing _ _ _ _ _ _ c.relation_row_completeness_cnf-made.ensures

pub returns : goal.returns
returns c = made_printed _ _ _ _ _ _ c.relation_row_completeness_cnf-made.ensures _ _ c.print_made.ensures
