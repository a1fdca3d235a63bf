use Rattle.cnf.specs.Clauses.{clauses_in}
use Rattle.row_text.proofs.PrintLaws.{Listing}
use Rattle.row_text.proofs.print_clauses.Given as goal

abbrev pub invariant-loop-i : goal.invariant-loop-i
invariant-loop-i l = Listing (clauses_in l.literals l.pairs) l.pairs l.literals l.initial.to l.to l.i
