use mathlib.Core.Path.{refl}
use borrow.Author.Rules.{rules}
use Rattle.model_read.proofs.GateLaws.{checking-none, checking_bad, checking-more, checking-done}
use Rattle.model_read.proofs.check_gates.Goals as goal

pub loop-i-init : goal.loop-i-init
loop-i-init c = (refl, checking-none _ _ _ _ _)

pub loop-i-preserved : goal.loop-i-preserved
loop-i-preserved c = (search rules, search (checking-more, c.in_ok-gate.ensures))

pub returns-in_err-gate : goal.returns-in_err-gate
returns-in_err-gate c = rw c.from_residual.ensures (search (checking_bad, c.in_err-gate.ensures))

pub returns : goal.returns
returns c = search checking-done
