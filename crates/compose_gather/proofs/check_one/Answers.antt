use Rattle.compose_gather.proofs.CheckLaws.{one_refused, one_fits, one_read}
use Rattle.compose_gather.proofs.check_one.Goals as goal

pub returns-in_err-n : goal.returns-in_err-n
returns-in_err-n c = one_refused _ _ _ _ _ c.in_err-n.ensures _ c.from_residual.ensures.1

pub add_counts-requires : goal.add_counts-requires
add_counts-requires c = search (one_fits, c.in_ok-n.ensures)

pub returns : goal.returns
returns c = search (one_read, c.in_ok-n.ensures)
