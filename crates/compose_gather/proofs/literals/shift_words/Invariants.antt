use Rattle.compose_gather.proofs.ShiftLaws.{Shifting}
use Rattle.compose_gather.proofs.literals.shift_words.Given as goal

abbrev pub invariant-loop-i : goal.invariant-loop-i
invariant-loop-i l = Shifting l.by l.literals l.initial.joint l.joint l.i
