use Prim.Native.Nat.{◌-◌}
use lib.ListN.{length}
use Rattle.key_table.specs.Inner.Table.{Comes}
use Rattle.key_table.proofs.walk.Given as goal

abbrev pub invariant-loop-number : goal.invariant-loop-number
invariant-loop-number l = Comes l.heads l.key l.table l.at l.code

abbrev pub decreases-loop-number : goal.decreases-loop-number
decreases-loop-number l = length l.table - l.at
