use lib.ListN.{take}
use Rattle.cnf.specs.Inner.Appending.{Appends}
use Rattle.obligation_gates.proofs.SourceLaws.{sources}
use Rattle.obligation_gates.proofs.append_sources.Given as goal

abbrev pub invariant-loop-i : goal.invariant-loop-i
invariant-loop-i l = Appends (take l.i (sources l.currents l.source)) l.initial.clauses l.clauses
