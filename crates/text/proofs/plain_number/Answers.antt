use mathlib.Core.Path.{sym, ap, ◌∙◌}
use Rattle.text.specs.Numbers.{long_zero}
use Rattle.text.proofs.PlainLaws.{plain-got}
use Rattle.text.proofs.plain_number.Goals as goal

pub returns : goal.returns
returns c =
    plain-got c.args.s.now _ _ c.digits_run-size.ensures (ap long_zero (sym c.split_at.ensures.front) ∙ sym c.long_zero.ensures ∙ c.if-long_zero.false) _
    c.split_at.ensures.back c.in-len1-up.len_at_least c.if-size-eq0.false c.args.stop c.if-b-stop.false
