use Rattle.compose_lines.proofs.GateLaws.{GateWalk}
use Rattle.compose_lines.proofs.print_gates.Given as goal

abbrev pub invariant-loop-k : goal.invariant-loop-k
invariant-loop-k l = GateWalk l.first l.table l.heads l.count l.initial.to l.to l.k
