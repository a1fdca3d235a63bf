use lib.ListN.{take}
use Rattle.cnf.specs.Inner.Appending.{Appends}
use Rattle.obligation_gates.proofs.ClauseLaws.{clause_lists}
use Rattle.obligation_gates.proofs.push_clauses.Given as goal

abbrev pub invariant-loop-i : goal.invariant-loop-i
invariant-loop-i l = Appends (take l.i (clause_lists l.inputs l.predicate.relevant.now l.predicate.pairs.now l.predicate.literals.now)) l.initial.clauses l.clauses
