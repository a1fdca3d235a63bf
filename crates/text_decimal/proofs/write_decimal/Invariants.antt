use Prim.Native.Nat.{◌-◌}
use Rattle.text_decimal.proofs.WritingLaws.{Writing}
use Rattle.text_decimal.proofs.write_decimal.Given as goal

abbrev pub invariant-loop-i : goal.invariant-loop-i
invariant-loop-i l = Writing l.initial.out l.at l.n l.out (l.size - l.i) l.rest
