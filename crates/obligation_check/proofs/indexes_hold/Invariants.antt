use Prim.Native.Nat.{◌/◌}
use mathlib.Core.Path.{◌≡◌}
use lib.Dec.{ltb}
use lib.ListN.{drop}
use Rattle.lists.specs.Tests.{all}
use Rattle.obligation_check.specs.Inner.Boundary.{indexes}
use Rattle.obligation_check.proofs.indexes_hold.Given as goal

abbrev pub invariant-loop-word : goal.invariant-loop-word
invariant-loop-word l = indexes l.n l.clause ≡ all (λ w. ltb (w / 2) l.n) (drop l.word-index l.clause)
