use native.Mathlib.Omega.{arith}
use mathlib.Core.Path.{refl}
use Rattle.text_print.proofs.WriteLaws.{digits_none, writing_two}
use Rattle.text_print.proofs.DigitPairLaws.{pairs-length, tens_in, ones_in}
use Rattle.text_print.proofs.write_digits.Goals as goal

pub loop-left-init : goal.loop-left-init
loop-left-init c = search digits_none

pub bounds-pairs-two : goal.bounds-pairs-two
bounds-pairs-two c = omega (arith, pairs-length _ c.digit_pairs-pairs.ensures)

pub bounds-pairs-two-in-loop-left : goal.bounds-pairs-two-in-loop-left
bounds-pairs-two-in-loop-left c = omega (arith, pairs-length _ c.digit_pairs-pairs.ensures)

pub loop-left-preserved : goal.loop-left-preserved
loop-left-preserved c =
    writing_two _ _ _ c.loop-left.left c.loop-left.rest c.loop-left.invariant _ _ _ (omega arith) refl
    (ones_in _ c.digit_pairs-pairs.ensures _ (omega arith))
    (tens_in _ c.digit_pairs-pairs.ensures _ (omega arith))
