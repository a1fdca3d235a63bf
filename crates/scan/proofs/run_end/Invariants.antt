use Prim.Native.Nat.{◌+◌}
use mathlib.Core.Path.{◌≡◌}
use lib.ListN.{drop}
use Rattle.scan.specs.Spans.{span, between}
use Rattle.scan.proofs.run_end.Given as goal

abbrev pub invariant-loop-i : goal.invariant-loop-i
invariant-loop-i l = l.at + span (between l.low l.high) (drop l.at l.s) ≡ l.i + span (between l.low l.high) (drop l.i l.s)
