use Rattle.circuit_lines.proofs.LiteralLaws.{line_taken}
use Rattle.circuit_lines.proofs.LiteralLineTakeLine.take.Goals as goal

pub returns : goal.returns
returns c = search (line_taken, c.in_ok-value.was)
