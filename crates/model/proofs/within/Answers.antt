use native.Mathlib.Omega.{arith}
use mathlib.Core.Path.{refl}
use Rattle.model.proofs.DefineLaws.{within-stop, within_more}
use Rattle.model.proofs.within.Goals as goal

pub returns-then-most-literal : goal.returns-then-most-literal
returns-then-most-literal c = within-stop _ _ c.loop-literal.literal-index _ c.loop-literal.invariant (omega arith) refl (omega arith)

pub loop-literal-preserved : goal.loop-literal-preserved
loop-literal-preserved c = within_more _ _ c.loop-literal.literal-index _ c.loop-literal.invariant (omega arith) refl (omega arith)
