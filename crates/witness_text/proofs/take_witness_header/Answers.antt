use Rattle.witness_text.proofs.HeaderLaws.{header_bad, header_few, header_got}
use Rattle.witness_text.proofs.take_witness_header.Goals as goal

pub returns-in_err-numbers : goal.returns-in_err-numbers
returns-in_err-numbers c = rw c.from_residual.ensures (search (header_bad, c.in_err-numbers.ensures))

pub returns-then-numbers-lt5 : goal.returns-then-numbers-lt5
returns-then-numbers-lt5 c = search (header_few, c.in_ok-numbers.ensures)

pub returns : goal.returns
returns c = search (header_got, c.in_ok-numbers.ensures)
