use Rattle.text.proofs.PlainLaws.{Running}
use Rattle.text.proofs.digits_run.Given as goal

abbrev pub invariant-loop-i : goal.invariant-loop-i
invariant-loop-i l = Running l.l l.most l.i l.value
