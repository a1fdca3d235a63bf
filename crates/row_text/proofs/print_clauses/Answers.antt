use Rattle.row_text.proofs.PrintLaws.{listing_none, listing-within, listing-more, listing-done}
use Rattle.row_text.proofs.print_clauses.Goals as goal

pub loop-i-init : goal.loop-i-init
loop-i-init c = search listing_none

pub print_clause-requires : goal.print_clause-requires
print_clause-requires c = search listing-within

pub loop-i-preserved : goal.loop-i-preserved
loop-i-preserved c = search listing-more
