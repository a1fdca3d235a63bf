use lib.ListN.{take}
use Rattle.lists.specs.Words.{triples_of, words_of}
use Rattle.aiger.specs.Gates.{gate_from}
use Rattle.cnf.specs.Inner.Appending.{Appends}
use Rattle.obligation_spec.specs.Lists.{gate_lists}
use Rattle.obligation_gates.proofs.append_ands.Given as goal

abbrev pub invariant-loop-i : goal.invariant-loop-i
invariant-loop-i l = Appends (words_of gate_lists (take l.i (triples_of gate_from l.gates))) l.initial.clauses l.clauses
