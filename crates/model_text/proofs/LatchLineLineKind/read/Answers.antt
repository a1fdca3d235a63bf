use Rattle.model_text.proofs.LatchLaws.{no_first, no_second, latch_some, latch_none}
use Rattle.model_text.proofs.LatchLineLineKind.read.Goals as goal

pub returns-in_default : goal.returns-in_default
returns-in_default c = no_first c.args.line.now c.next_number.result c.next_number.ensures c.in_default.not-Got

pub returns-in_default-next_number : goal.returns-in_default-next_number
returns-in_default-next_number c =
    no_second c.args.line.now c.in-Got.current c.in-Got.rest c.in-Got.ensures c.next_number-2.result c.next_number-2.ensures c.in_default-next_number.not-Got

pub returns-then-not-latch_end : goal.returns-then-not-latch_end
returns-then-not-latch_end c = search (latch_none, c.in-Got.ensures, c.in-Got-next_number.ensures)

pub returns : goal.returns
returns c = search (latch_some, c.in-Got.ensures, c.in-Got-next_number.ensures)
