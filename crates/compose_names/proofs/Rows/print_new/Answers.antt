use Rattle.compose_names.proofs.WalkLaws.{walk_none, walk_old, walk_new, walk_end}
use Rattle.compose_names.proofs.WitnessLaws.{row_words}
use Rattle.compose_names.proofs.Rows.print_new.Goals as goal

pub loop-k-init : goal.loop-k-init
loop-k-init c = search walk_none

pub loop-k-preserved-then-self-k : goal.loop-k-preserved-then-self-k
loop-k-preserved-then-self-k c = search walk_old

pub print_row-requires : goal.print_row-requires
print_row-requires c = search row_words

pub loop-k-preserved : goal.loop-k-preserved
loop-k-preserved c = search walk_new

pub returns : goal.returns
returns c = search walk_end
