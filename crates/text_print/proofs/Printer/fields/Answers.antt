use Rattle.text_print.proofs.PrintsLaws.{printing-none, printing-more}
use Rattle.text_print.proofs.LineLaws.{fields-more}
use Rattle.text_print.proofs.Printer.fields.Goals as goal

pub loop-n-init : goal.loop-n-init
loop-n-init g c = printing-none _ _

pub loop-n-preserved : goal.loop-n-preserved
loop-n-preserved g c = printing-more _ _ _ _ c.loop-n.invariant _ _ _ (fields-more _ _ _ _ _ c.loop-n-test.true c.n-item.is c.value.ensures) c.field.ensures
