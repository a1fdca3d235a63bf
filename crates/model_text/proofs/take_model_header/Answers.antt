use Rattle.model_text.proofs.HeaderLaws.{header_bad, header_got, header_other}
use Rattle.model_text.proofs.take_model_header.Goals as goal

pub returns-in_err-numbers : goal.returns-in_err-numbers
returns-in_err-numbers c = rw c.from_residual.ensures (search (header_bad, c.in_err-numbers.ensures))

pub returns-then-numbers-ne5 : goal.returns-then-numbers-ne5
returns-then-numbers-ne5 c = search (header_other, c.in_ok-numbers.ensures)

pub returns : goal.returns
returns c = search (header_got, c.in_ok-numbers.ensures)
