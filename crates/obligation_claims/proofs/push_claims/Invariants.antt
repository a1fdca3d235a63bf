use lib.ListN.{take}
use Rattle.cnf.specs.Inner.Appending.{Appends}
use Rattle.obligation_claims.specs.Inner.Kinds.{lists_of}
use Rattle.obligation_claims.proofs.push_claims.Given as goal

abbrev pub invariant-loop-i : goal.invariant-loop-i
invariant-loop-i l = Appends (take l.i (lists_of l.keys l.claims)) l.initial.clauses l.clauses
