use native.Mathlib.Omega.{arith}
use mathlib.Core.Path.{refl}
use borrow.Author.Rules.{rules}
use Rattle.obligation_check.proofs.BoundaryLaws.{clause-stop, clause-more, pairs-stop}
use Rattle.obligation_check.proofs.predicate_holds.Goals as goal

pub returns-then-not-indexes_hold : goal.returns-then-not-indexes_hold
returns-then-not-indexes_hold c = clause-stop _ _ _ _ c.loop-i.i _ c.loop-i.invariant (omega arith) _ c.pair_end.ensures _ c.in-Some.is _ refl _ c.indexes_hold.ensures (search rules)

pub loop-i-preserved : goal.loop-i-preserved
loop-i-preserved c = clause-more _ _ _ _ c.loop-i.i _ c.loop-i.invariant (omega arith) _ c.pair_end.ensures _ c.in-Some.is _ refl _ c.indexes_hold.ensures (search rules)

pub returns : goal.returns
returns c = pairs-stop _ _ _ _ c.loop-i.i _ c.loop-i.invariant (omega arith)
