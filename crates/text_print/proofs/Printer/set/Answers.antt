use native.Mathlib.Omega.{arith}
use Rattle.text_print.proofs.PrintsLaws.{printing-more}
use Rattle.text_print.proofs.WordLaws.{set-none, set_more}
use Rattle.text_print.proofs.Printer.set.Goals as goal

pub loop-j-init : goal.loop-j-init
loop-j-init c = set-none _ _

pub loop-j-preserved : goal.loop-j-preserved
loop-j-preserved c = printing-more _ _ _ _ c.loop-j.invariant _ _ _ (set_more _ c.loop-j.j (omega arith)) c.word.ensures
