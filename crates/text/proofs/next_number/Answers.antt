use mathlib.Core.Path.{refl, sym, ap, ◌∙◌}
use Rattle.text.specs.Numbers.{long_zero}
use Rattle.text.proofs.PlainLaws.{number_run}
use Rattle.text.proofs.next_number.Goals as goal

pub returns : goal.returns
returns c =
    number_run c.args.reader c.args.l.now c.from_field-front.result.now c.from_field-front.ensures c.is_empty.result c.is_empty.ensures c.if-is_empty.false _ _
    c.digits_run-size.ensures (ap long_zero (sym c.split_at.ensures.front) ∙ sym c.long_zero.ensures ∙ c.if-long_zero.false) _ c.split_at.ensures.back
    (c.if-not-ends_field.ensures refl)
