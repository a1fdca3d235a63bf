use Rattle.compose_gather.proofs.ShiftLaws.{range-latches, range-outputs, range-bads, range-constraints, range-operands}
use Rattle.compose_gather.proofs.literals.range_of.Goals as goal

pub returns-then-counts-eq0 : goal.returns-then-counts-eq0
returns-then-counts-eq0 c = search range-outputs

pub returns-in-Latches : goal.returns-in-Latches
returns-in-Latches c = search range-latches

pub returns-else-counts-eq0 : goal.returns-else-counts-eq0
returns-else-counts-eq0 c = search range-bads

pub returns-in-Constraints : goal.returns-in-Constraints
returns-in-Constraints c = search range-constraints

pub returns-in-Operands : goal.returns-in-Operands
returns-in-Operands c = search range-operands
