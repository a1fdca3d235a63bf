use Rattle.lists.proofs.PairLaws.{Ordering}
use Rattle.lists.proofs.in_order.Given as goal

abbrev pub invariant-loop-i : goal.invariant-loop-i
invariant-loop-i l = Ordering l.pairs l.all l.end l.i
