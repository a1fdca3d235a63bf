use Rattle.circuit_lines.proofs.OneLaws.{one_bad, one_got}
use Rattle.circuit_lines.proofs.any_line.Goals as goal

pub returns-in_err-value : goal.returns-in_err-value
returns-in_err-value g c = rw c.from_residual-in_err-value.ensures (search (one_bad, c.in_ok-line.ensures, c.in_err-value.ensures))

pub returns : goal.returns
returns g c = search (one_got, c.in_ok-line.ensures, c.in_ok-value.ensures)
