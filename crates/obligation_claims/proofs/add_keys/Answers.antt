use Rattle.obligation_claims.proofs.KeyLaws.{adding-none, adding-more, adding-done}
use native.Mathlib.Omega.{arith}
use Rattle.obligation_claims.proofs.add_keys.Goals as goal

pub loop-i-init : goal.loop-i-init
loop-i-init c = search adding-none

pub loop-i-preserved : goal.loop-i-preserved
loop-i-preserved c = search adding-more

pub returns : goal.returns
returns c = adding-done _ _ _ _ _ c.loop-i.i c.loop-i.invariant (omega arith)
