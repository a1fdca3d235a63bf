use mathlib.Core.Path.{◌≡◌}
use lib.ListN.{drop}
use Rattle.lists.specs.Tests.{all}
use Rattle.obligation_spec.specs.Lists.{outcomes_of}
use Rattle.obligation_check.specs.Inner.Boundary.{outcome_fits}
use Rattle.obligation_check.proofs.outcomes_fit.Given as goal

abbrev pub invariant-loop-i : goal.invariant-loop-i
invariant-loop-i l = all (outcome_fits l.latches l.width) (outcomes_of l.words) ≡ all (outcome_fits l.latches l.width) (drop l.i (outcomes_of l.words))
