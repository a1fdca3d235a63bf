use native.Mathlib.Omega.{arith}
use Rattle.obligation_check.proofs.OutcomeLaws.{fit_end}
use Rattle.obligation_check.proofs.outcomes_fit.Goals as goal

pub returns : goal.returns
returns c = fit_end _ _ _ c.loop-i.i _ c.loop-i.invariant (omega arith)
