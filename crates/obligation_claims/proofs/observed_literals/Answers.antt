use mathlib.Core.Path.{refl}
use native.Mathlib.Omega.{arith}
use Rattle.obligation_claims.proofs.KeyLaws.{picking_more}
use Rattle.obligation_claims.proofs.observed_literals.Goals as goal

pub loop-i-preserved : goal.loop-i-preserved
loop-i-preserved c = picking_more _ _ _ _ c.loop-i.i c.loop-i.invariant _ _ refl c.word.ensures (omega arith)
