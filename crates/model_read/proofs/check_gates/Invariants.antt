use mathlib.Core.Path.{◌≡◌}
use lib.ListN.{length}
use Rattle.model_read.proofs.GateLaws.{Checking}
use Rattle.model_read.proofs.check_gates.Given as goal

abbrev pub invariant-loop-i : goal.invariant-loop-i
invariant-loop-i l = (length l.work ≡ length l.initial.work) × Checking l.s l.n l.most l.fine l.initial.work l.work l.left l.good l.i
