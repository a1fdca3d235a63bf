use Rattle.circuit_lines.proofs.NumbersLaws.{Numbering}
use Rattle.circuit_lines.proofs.take_numbers.Given as goal

abbrev pub invariant-loop-i : goal.invariant-loop-i
invariant-loop-i l = Numbering l.reader l.l l.initial.out l.out l.i l.left
