use native.Mathlib.Omega.{arith}
use Rattle.model.proofs.DefineLaws.{disordered, both_smaller}
use Rattle.model.proofs.MarkingLaws.{adds_disordered, adds-ordered}
use Rattle.model.proofs.define_gate.Goals as goal
use Rattle.model.proofs.define_gate.Goals.{then-gate-via-then-gate, then-gate-via-else-gate+then-gate-2}

pub returns-then-gate : goal.returns-then-gate
returns-then-gate c = adds_disordered _ _ _ (disordered _ (λ o. elim c.then-gate.branch [ then-gate-via-then-gate w ↦ omega (arith, o.left) | then-gate-via-else-gate+then-gate-2 w ↦ omega (arith, o.right) ]))

pub returns : goal.returns
returns c = adds-ordered _ _ _ (both_smaller _ (omega arith) (omega arith)) c.define.result c.define.new.marks c.define.ensures.0 c.define.ensures.1
