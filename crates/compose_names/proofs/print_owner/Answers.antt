use Rattle.compose_names.proofs.PieceLaws.{three_pieces}
use Rattle.compose_names.proofs.print_owner.Goals as goal

pub returns : goal.returns
returns c = three_pieces _ _ _ _ _ _ _ c.byte.ensures c.number.ensures c.byte-2.ensures
