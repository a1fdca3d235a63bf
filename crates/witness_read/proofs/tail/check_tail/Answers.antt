use Rattle.witness_read.proofs.RisingLaws.{order-none, order-bad, order-end, input-fits, latch_fits, order-input, order_latch, order-others}
use Rattle.witness_read.proofs.TailLaws.{symbol-less}
use Rattle.witness_read.proofs.tail.check_tail.Goals as goal

pub loop-symbol-init : goal.loop-symbol-init
loop-symbol-init c = search order-none

pub returns-in_err-symbol : goal.returns-in_err-symbol
returns-in_err-symbol c = order-bad _ _ _ _ _ c.loop-symbol.invariant _ c.in_err-symbol.ensures _ c.from_residual.ensures.1

pub returns-in_default : goal.returns-in_default
returns-in_default c = search (order-end, c.in_ok-symbol.ensures)

pub overflow_add-order : goal.overflow_add-order
overflow_add-order c = search (input-fits, c.in_ok-symbol.ensures)

pub overflow_add-order-in-Latch : goal.overflow_add-order-in-Latch
overflow_add-order-in-Latch c = search (latch_fits, c.in_ok-symbol.ensures)

pub loop-symbol-preserved-else-symbol-order : goal.loop-symbol-preserved-else-symbol-order
loop-symbol-preserved-else-symbol-order c = search (order-input, c.in_ok-symbol.ensures)

pub loop-symbol-preserved-else-symbol-order-2 : goal.loop-symbol-preserved-else-symbol-order-2
loop-symbol-preserved-else-symbol-order-2 c = search (order_latch, c.in_ok-symbol.ensures)

pub loop-symbol-preserved : goal.loop-symbol-preserved
loop-symbol-preserved c = search (order-others, c.in_ok-symbol.ensures)

pub loop-symbol-smaller-else-symbol-order : goal.loop-symbol-smaller-else-symbol-order
loop-symbol-smaller-else-symbol-order c = search (symbol-less, c.in_ok-symbol.ensures)

pub loop-symbol-smaller-else-symbol-order-2 : goal.loop-symbol-smaller-else-symbol-order-2
loop-symbol-smaller-else-symbol-order-2 c = search (symbol-less, c.in_ok-symbol.ensures)

pub loop-symbol-smaller : goal.loop-symbol-smaller
loop-symbol-smaller c = search (symbol-less, c.in_ok-symbol.ensures)
