use native.Mathlib.Omega.{arith}
use borrow.Author.Rules.{rules}
use Rattle.model.proofs.MarkingLaws.{gates-more, gates-stop}
use Rattle.model.proofs.define_gates.Goals as goal

pub returns-then-not-define_gate : goal.returns-then-not-define_gate
returns-then-not-define_gate g c = gates-stop _ _ _ _ c.loop-i.i c.loop-i.marks c.loop-i.invariant _ (omega arith) (omega arith) _ c.gate.ensures _ _ c.define_gate.ensures (search rules)

pub loop-i-preserved : goal.loop-i-preserved
loop-i-preserved g c = gates-more _ _ _ _ c.loop-i.i c.loop-i.marks c.loop-i.invariant c.args.count (omega arith) (omega arith) _ c.gate.ensures _ _ c.define_gate.ensures (search rules)
