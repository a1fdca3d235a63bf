use native.Mathlib.Omega.{arith}
use borrow.Author.Rules.{rules}
use Rattle.obligation_check.proofs.OutcomeLaws.{not-rising, not-outputs, too_many_outcomes, outcomes_not-rising, few-observed, outcomes_hold}
use Rattle.obligation_check.proofs.outcomes_claimed.Goals as goal

pub returns-then-not-rises : goal.returns-then-not-rises
returns-then-not-rises c = not-rising _ _ _ c.args.words.now _ c.rises.ensures (search rules)

pub returns-then-not-below : goal.returns-then-not-below
returns-then-not-below c = not-outputs _ _ _ c.args.words.now _ c.below.ensures (search rules)

pub returns-then-words-gt65536 : goal.returns-then-words-gt65536
returns-then-words-gt65536 c = search too_many_outcomes

pub returns-then-not-outcomes_rise : goal.returns-then-not-outcomes_rise
returns-then-not-outcomes_rise c = outcomes_not-rising _ _ _ c.args.words.now _ c.outcomes_rise.ensures (search rules)

pub outcomes_fit-requires : goal.outcomes_fit-requires
outcomes_fit-requires c = (c.requires.0, omega (arith, c.requires.1, few-observed c.args.latches c.args.outputs c.args.observed.now c.args.words.now _ c.rises.ensures (search rules) _ c.below.ensures (search rules)))

pub returns : goal.returns
returns c = outcomes_hold c.args.latches c.args.outputs c.args.observed.now c.args.words.now _ c.rises.ensures (search rules) _ c.below.ensures (search rules) (omega arith) _ c.outcomes_rise.ensures (search rules) _ c.outcomes_fit.ensures
