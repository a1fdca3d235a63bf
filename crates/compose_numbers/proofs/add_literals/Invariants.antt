use Rattle.compose_numbers.proofs.AddLaws.{Adding}
use Rattle.compose_numbers.proofs.add_literals.Given as goal

abbrev pub invariant-loop-i : goal.invariant-loop-i
invariant-loop-i l = Adding l.literals l.vars l.initial.set l.set l.found l.i
