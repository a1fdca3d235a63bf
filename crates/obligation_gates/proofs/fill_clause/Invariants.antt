use Rattle.obligation_gates.proofs.RepeatLaws.{Keeping}
use Rattle.obligation_gates.proofs.fill_clause.Given as goal

abbrev pub invariant-loop-word : goal.invariant-loop-word
invariant-loop-word l = Keeping l.inputs l.relevant l.clause l.seen l.list l.n l.word-index
