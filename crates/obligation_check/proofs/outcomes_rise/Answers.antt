use native.Mathlib.Omega.{arith}
use borrow.Author.Rules.{rules}
use Rattle.obligation_check.proofs.OutcomeLaws.{outcomes_fall, outcomes_more, outcomes_end}
use Rattle.obligation_check.proofs.outcomes_rise.Goals as goal

pub returns-then-not-rises : goal.returns-then-not-rises
returns-then-not-rises c = outcomes_fall _ c.loop-i.i _ c.loop-i.invariant (omega arith) (omega arith) _ _ c.outcome_at.ensures c.outcome_at-in-loop-i.ensures c.lt-rises.result (search rules) c.if-not-rises.true

pub loop-i-preserved : goal.loop-i-preserved
loop-i-preserved c = outcomes_more _ c.loop-i.i _ c.loop-i.invariant (omega arith) (omega arith) _ _ c.outcome_at.ensures c.outcome_at-in-loop-i.ensures c.lt-rises.result (search rules) c.if-not-rises.false

pub returns : goal.returns
returns c = outcomes_end _ c.loop-i.i _ c.loop-i.invariant (omega arith) (omega arith)
