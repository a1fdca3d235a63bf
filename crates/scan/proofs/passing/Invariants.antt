use Prim.Native.Nat.{◌+◌}
use mathlib.Core.Path.{◌≡◌}
use lib.ListN.{drop}
use Rattle.scan.specs.Spans.{span}
use Rattle.scan.proofs.passing.Given as goal

abbrev pub invariant-loop-i : goal.invariant-loop-i
invariant-loop-i g l = span g.T.ByteTest.passes l.s ≡ l.i + span g.T.ByteTest.passes (drop l.i l.s)
