use native.Mathlib.Omega.{arith}
use Rattle.text_decimal.proofs.WritingLaws.{no_room, room, writing-none, writing_more, writing-done}
use Rattle.text_decimal.proofs.write_decimal.Goals as goal

pub returns-in_err-end : goal.returns-in_err-end
returns-in_err-end c = rw c.from_residual.ensures (no_room _ _ _ (λ h. c.in_err-end.ensures (omega (arith, h, c.decimal_length-size.ensures))))

pub loop-i-init : goal.loop-i-init
loop-i-init c = writing-none _ _ _ _ (omega (arith, c.decimal_length-size.ensures)) (omega (arith, c.in_ok-end.ensures))

pub loop-i-preserved : goal.loop-i-preserved
loop-i-preserved c = writing_more _ _ _ _ _ _ c.loop-i.invariant (omega arith) _ (omega (arith, c.in_ok-end.ensures)) _ (omega arith)

pub returns : goal.returns
returns c =
    room _ _ _ _ _ (omega (arith, c.in_ok-end.ensures, c.decimal_length-size.ensures)) (omega (arith, c.in_ok-end.ensures))
    (writing-done _ _ _ _ _ _ c.loop-i.invariant (omega arith))
