use Rattle.circuit_lines.proofs.LiteralLaws.{Lines}
use Rattle.circuit_lines.proofs.take_lines.Given as goal

abbrev pub invariant-loop-i : goal.invariant-loop-i
invariant-loop-i g l = Lines (g.K.LineKind.item l.kind) l.s l.initial.out l.out l.i l.left
