use Rattle.text.proofs.LiteralLaws.{literal-line}
use Rattle.text.proofs.any_literal.Goals as goal

pub returns : goal.returns
returns c = literal-line c.args.reader c.args.s.now c.in-Some.line.value.now c.in-Some.line.rest c.in-Some.ensures _ c.line_literal.ensures
