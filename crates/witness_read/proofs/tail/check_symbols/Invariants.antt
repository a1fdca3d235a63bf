use mathlib.Core.Path.{◌≡◌}
use lib.ListN.{length}
use Rattle.witness_read.proofs.TailLaws.{Naming}
use Rattle.witness_read.proofs.tail.check_symbols.Given as goal

abbrev pub invariant-loop-symbol : goal.invariant-loop-symbol
invariant-loop-symbol l = (length l.marks ≡ length l.initial.marks) × Naming l.s l.counts l.marks l.left

abbrev pub decreases-loop-symbol : goal.decreases-loop-symbol
decreases-loop-symbol l = length l.left
