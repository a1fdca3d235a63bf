use Rattle.text_decimal.proofs.WritingLaws.{Writing}
use Rattle.text_print.proofs.write_digits.Given as goal

abbrev pub invariant-loop-left : goal.invariant-loop-left
invariant-loop-left l = Writing l.initial.to 0 l.n l.to l.left l.rest

abbrev pub decreases-loop-left : goal.decreases-loop-left
decreases-loop-left l = l.left
