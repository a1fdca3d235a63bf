use mathlib.Core.Bool.{true}
use lib.ListN.{take}
use Rattle.lists.specs.Words.{triples_of}
use Rattle.aiger.specs.Gates.{gate_from}
use Rattle.model.specs.Inner.Marking.{AddsGates}
use Rattle.model.proofs.define_gates.Given as goal

abbrev pub invariant-loop-i : goal.invariant-loop-i
invariant-loop-i g l = AddsGates l.most l.initial.marks true (take l.i (triples_of gate_from (g.G.GateList.words l.gates))) l.marks true
