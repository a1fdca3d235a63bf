use mathlib.Core.Path.{◌≡◌}
use lib.ListN.{length}
use Rattle.model_read.proofs.GateLaws.{Writing}
use Rattle.model_read.proofs.write_gates.Given as goal

abbrev pub invariant-loop-i : goal.invariant-loop-i
invariant-loop-i l = (length l.gates ≡ length l.initial.gates) × Writing l.s l.n l.initial.gates l.gates l.left l.i
