use Rattle.witness_load.proofs.LineLaws.{passing-none, passing-end, passing-more, passing-done}
use Rattle.witness_load.proofs.pass_lines.Goals as goal

pub loop-i-init : goal.loop-i-init
loop-i-init c = search passing-none

pub returns-in_default-clause-lines : goal.returns-in_default-clause-lines
returns-in_default-clause-lines c = search (passing-end, c.in_default.ensures)

pub loop-i-preserved : goal.loop-i-preserved
loop-i-preserved c = search (passing-more, c.in-Some.ensures)

pub returns-clause-lines : goal.returns-clause-lines
returns-clause-lines c = search passing-done
