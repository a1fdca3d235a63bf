use Prim.Native.Nat.{◌*◌}
use mathlib.Core.Path.{◌≡◌}
use lib.ListN.{drop}
use Rattle.obligation_check.specs.Inner.Boundary.{predicate_holds}
use Rattle.obligation_check.proofs.predicate_holds.Given as goal

abbrev pub invariant-loop-i : goal.invariant-loop-i
invariant-loop-i l = predicate_holds l.n 0 l.literals l.pairs ≡ predicate_holds l.n l.end l.literals (drop (2 * l.i) l.pairs)
