use Prim.Native.Nat.{◌-◌}
use mathlib.Core.Path.{◌≡◌}
use lib.ListN.{drop}
use Rattle.obligation_spec.specs.Lists.{outcomes_of}
use Rattle.obligation_spec.specs.Limits.{rising_outcomes}
use Rattle.obligation_check.proofs.outcomes_rise.Given as goal

abbrev pub invariant-loop-i : goal.invariant-loop-i
invariant-loop-i l = rising_outcomes (outcomes_of l.words) ≡ rising_outcomes (drop (l.i - 1) (outcomes_of l.words))
