use mathlib.Core.Path.{sym, ◌∙◌}
use Rattle.model_text.proofs.LatchLaws.{end_none, end_more, end_one}
use Rattle.model_text.proofs.latch_end.Goals as goal

pub returns-in_default : goal.returns-in_default
returns-in_default c = end_none c.args.l.now c.args.current c.in_default.ensures

pub returns-then-is_some : goal.returns-then-is_some
returns-then-is_some c = search (end_more, c.in-Some.ensures, sym c.is_some.ensures ∙ c.if-is_some.true)

pub returns : goal.returns
returns c = search (end_one, c.in-Some.ensures, sym c.is_some.ensures ∙ c.if-is_some.false)
