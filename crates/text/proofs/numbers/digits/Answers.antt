use native.Mathlib.Omega.{arith}
use Rattle.text.proofs.DigitLaws.{at-outside, at-over, at-end, at_digit, digits-start}
use Rattle.text.proofs.numbers.digits.Goals as goal

pub returns-in_err-checked_mul : goal.returns-in_err-checked_mul
returns-in_err-checked_mul c =
    rw c.from_residual.ensures (at-over _ _ _ _ c.loop-b.invariant.1 c.loop-b-test.true (λ h. c.in_err-checked_mul.ensures (omega (arith, h))))

pub returns-in_err-value : goal.returns-in_err-value
returns-in_err-value c =
    rw c.from_residual-in_err-value.ensures
    (at-over _ _ _ _ c.loop-b.invariant.1 c.loop-b-test.true (λ h. c.in_err-value.ensures (omega (arith, h, c.in_ok-checked_mul.ensures, c.from.ensures))))
