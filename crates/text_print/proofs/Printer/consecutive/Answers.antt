use Prim.Native.Nat.{◌+◌, ◌-◌}
use native.Mathlib.Omega.{arith}
use Rattle.text_print.proofs.PrintsLaws.{printing-more}
use Rattle.text_print.proofs.LineLaws.{literals-more}
use Rattle.text_print.proofs.Printer.consecutive.Goals as goal

pub loop-i-preserved : goal.loop-i-preserved
loop-i-preserved c =
    printing-more _ _ _ _ c.loop-i.invariant _ _ _
    (literals-more (c.args.first + c.loop-i.i) (c.args.count - c.loop-i.i) (omega arith) _ _ (omega arith) (omega arith)) c.literal_line.ensures
