use native.Mathlib.Omega.{arith}
use Rattle.obligation_claims.proofs.PushLaws.{claims-next, claims-end}
use Rattle.obligation_claims.proofs.push_claims.Goals as goal

pub loop-i-preserved : goal.loop-i-preserved
loop-i-preserved c = claims-next _ _ _ _ c.loop-i.i c.loop-i.invariant (omega arith) _ c.claim.ensures _ c.push_claim.ensures

pub returns : goal.returns
returns c = claims-end _ _ _ _ c.loop-i.i c.loop-i.invariant (omega arith)
