use Rattle.scan.proofs.BlockLaws.{span_near, span_past}
use Rattle.scan.proofs.line_length.Goals as goal

pub returns-then-length-front-clause-value : goal.returns-then-length-front-clause-value
returns-then-length-front-clause-value c = search span_near

pub returns-clause-value : goal.returns-clause-value
returns-clause-value c = search span_past
