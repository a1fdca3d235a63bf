use Rattle.compose_numbers.proofs.NumberLaws.{Numbering}
use Rattle.compose_numbers.proofs.number_leaves.Given as goal

abbrev pub invariant-loop-i : goal.invariant-loop-i
invariant-loop-i l = Numbering l.origins l.initial.assigned l.before l.initial.numbers l.fn.next l.assigned l.numbers l.after l.i
