use Rattle.circuit_lines.proofs.LiteralLaws.{lines-more}
use Rattle.circuit_lines.proofs.take_lines.Goals as goal

pub loop-i-preserved : goal.loop-i-preserved
loop-i-preserved g c = search (lines-more, c.in_ok-line.ensures)
