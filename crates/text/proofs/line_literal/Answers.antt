use mathlib.Core.Path.{sym, ◌∙◌}
use Rattle.text.proofs.LiteralLaws.{literal-other, literal-more, literal-got}
use Rattle.text.proofs.line_literal.Goals as goal

pub returns-in_default : goal.returns-in_default
returns-in_default c = literal-other c.args.reader c.args.l.now c.next_number.result c.next_number.ensures c.in_default.not-Got

pub returns-then-is_some : goal.returns-then-is_some
returns-then-is_some c =
    literal-more c.args.reader c.args.l.now c.in-Got.value c.in-Got.rest c.in-Got.ensures c.next_field.result c.next_field.ensures
    (sym c.is_some.ensures ∙ c.if-is_some.true)

pub returns : goal.returns
returns c =
    literal-got c.args.reader c.args.l.now c.in-Got.value c.in-Got.rest c.in-Got.ensures c.next_field.result c.next_field.ensures
    (sym c.is_some.ensures ∙ c.if-is_some.false)
