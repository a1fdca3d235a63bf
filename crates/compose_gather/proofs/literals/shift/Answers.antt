use Rattle.compose_gather.proofs.ShiftLaws.{shift_none, shift_input, shift_latch, shift_gate}
use Rattle.compose_gather.proofs.literals.shift.Goals as goal

pub returns-then-x-eq0 : goal.returns-then-x-eq0
returns-then-x-eq0 c = search shift_none

pub returns-then-x-by : goal.returns-then-x-by
returns-then-x-by c = search shift_input

pub returns-then-x-by-2 : goal.returns-then-x-by-2
returns-then-x-by-2 c = search shift_latch

pub returns : goal.returns
returns c = search shift_gate
