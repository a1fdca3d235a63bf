use mathlib.Core.Bool.{true}
use lib.ListN.{take}
use Rattle.model.specs.Inner.Marking.{AddsLeaves}
use Rattle.model.proofs.define_all.Given as goal

abbrev pub invariant-loop-literal : goal.invariant-loop-literal
invariant-loop-literal l = AddsLeaves l.most l.initial.marks (take l.literal-index l.literals) l.marks true
