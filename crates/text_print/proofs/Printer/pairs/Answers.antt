use Prim.Native.Nat.{◌+◌, ◌*◌}
use native.Mathlib.Omega.{arith}
use Rattle.text_print.proofs.PrintsLaws.{printing-more, printing-done}
use Rattle.text_print.proofs.LineLaws.{gates-more, gates-end}
use Rattle.text_print.proofs.Printer.pairs.Goals as goal

pub loop-i-preserved : goal.loop-i-preserved
loop-i-preserved c =
    printing-more _ _ _ _ c.loop-i.invariant _ _ _
    (gates-more (c.args.first + c.loop-i.i) c.args.words.now (2 * c.loop-i.i) (omega arith) _ _ (omega arith) (omega arith)) c.three.ensures

pub returns : goal.returns
returns c = printing-done _ _ _ _ c.loop-i.invariant (gates-end (c.args.first + c.loop-i.i) c.args.words.now (2 * c.loop-i.i) (omega arith))
