use Rattle.witness_text.proofs.LatchLaws.{latch_refused, latch_short, latch_some}
use Rattle.witness_text.proofs.latch_line.Goals as goal

pub returns-in_err-count : goal.returns-in_err-count
returns-in_err-count c = rw c.from_residual.ensures (search (latch_refused, c.in_err-count.ensures))

pub returns-then-count-lt2 : goal.returns-then-count-lt2
returns-then-count-lt2 c = search (latch_short, c.in_ok-count.ensures)

pub returns : goal.returns
returns c = search (latch_some, c.in_ok-count.ensures)
