use mathlib.Core.Path.{◌≡◌}
use lib.ListN.{length}
use Rattle.witness_load.proofs.NamingLaws.{Names}
use Rattle.witness_load.proofs.name_leaves.Given as goal

abbrev pub invariant-loop-line : goal.invariant-loop-line
invariant-loop-line l = (length l.out ≡ length l.initial.out) × Names l.s l.symbols l.counts l.left l.out

abbrev pub decreases-loop-line : goal.decreases-loop-line
decreases-loop-line l = length l.left
