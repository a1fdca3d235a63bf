use Prim.Native.Nat.{◌-◌}
use lib.ListN.{length}
use Rattle.replay.proofs.replay.Given as goal

abbrev pub decreases-loop-at : goal.decreases-loop-at
decreases-loop-at l = length l.input - l.at
