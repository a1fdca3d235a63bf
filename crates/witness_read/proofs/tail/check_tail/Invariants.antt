use lib.ListN.{length}
use Rattle.witness_read.proofs.RisingLaws.{InOrder}
use Rattle.witness_read.proofs.tail.check_tail.Given as goal

abbrev pub invariant-loop-symbol : goal.invariant-loop-symbol
invariant-loop-symbol l = InOrder l.s l.counts l.order.inputs l.order.latches l.left

abbrev pub decreases-loop-symbol : goal.decreases-loop-symbol
decreases-loop-symbol l = length l.left
