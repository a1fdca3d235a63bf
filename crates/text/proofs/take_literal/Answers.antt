use Rattle.text.proofs.PlainLineLaws.{literal-plain}
use Rattle.text.proofs.take_literal.Goals as goal

pub returns : goal.returns
returns c = literal-plain c.args.reader c.args.s.now c.in-Some.number.value c.in-Some.number.rest c.in-Some.ensures
