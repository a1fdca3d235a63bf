use Rattle.compose_names.proofs.PieceLaws.{shared-printed, private_printed}
use Rattle.compose_names.proofs.print_name.Goals as goal

pub returns-then-origin-eq0 : goal.returns-then-origin-eq0
returns-then-origin-eq0 c = search shared-printed

pub returns : goal.returns
returns c = search private_printed
