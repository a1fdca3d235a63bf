use Rattle.circuit_lines.proofs.HeaderLaws.{header_bad, header_got}
use Rattle.circuit_lines.proofs.take_header_numbers.Goals as goal

pub returns-in_err-value : goal.returns-in_err-value
returns-in_err-value c = rw c.from_residual-in_err-value.ensures (search (header_bad, c.in_ok-line.ensures, c.in_err-value.ensures))

pub returns : goal.returns
returns c = search (header_got, c.in_ok-line.ensures, c.in_ok-value.ensures)
