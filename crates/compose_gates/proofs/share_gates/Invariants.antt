use Rattle.compose_gates.proofs.TurnLaws.{Sharing}
use Rattle.compose_gates.proofs.share_gates.Given as goal

abbrev pub invariant-loop-i : goal.invariant-loop-i
invariant-loop-i l = Sharing l.operands l.initial.vars l.known l.initial.table l.leaves l.vars l.table l.shared l.i
