use Rattle.compose_gather.proofs.ShiftLaws.{half_shiftable, literal-shifted}
use Rattle.compose_gather.proofs.literals.shift_literal.Goals as goal

pub shift-x-requires : goal.shift-x-requires
shift-x-requires c = search half_shiftable

pub returns : goal.returns
returns c = search literal-shifted
