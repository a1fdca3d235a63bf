use native.Mathlib.Omega.{arith}
use borrow.Author.Rules.{rules}
use Rattle.obligation_check.proofs.BoundaryLaws.{too_many_relevant, not-rising, not-inputs, too_many_clauses, too_many_literals, bounds_hold}
use Rattle.obligation_check.proofs.Predicate.boundary_holds.Goals as goal

pub returns-then-count-gt64 : goal.returns-then-count-gt64
returns-then-count-gt64 c = search too_many_relevant

pub returns-then-not-rises : goal.returns-then-not-rises
returns-then-not-rises c = not-rising _ _ _ _ _ c.rises.ensures (search rules)

pub returns-then-not-below : goal.returns-then-not-below
returns-then-not-below c = not-inputs _ _ _ _ _ c.below.ensures (search rules)

pub returns-then-self-gt64 : goal.returns-then-self-gt64
returns-then-self-gt64 c = search too_many_clauses

pub returns-then-not-lengths_within : goal.returns-then-not-lengths_within
returns-then-not-lengths_within c = too_many_literals _ _ _ _ _ c.lengths_within.ensures (search rules)

pub returns : goal.returns
returns c = bounds_hold _ _ _ _ (omega arith) _ c.rises.ensures (search rules) _ c.below.ensures (search rules) (omega arith) _ c.lengths_within.ensures (search rules) _ c.predicate_holds.ensures
