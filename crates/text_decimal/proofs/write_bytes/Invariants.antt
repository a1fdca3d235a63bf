use Rattle.lists.proofs.PartLaws.{Copied}
use Rattle.text_decimal.proofs.write_bytes.Given as goal

abbrev pub invariant-loop-i : goal.invariant-loop-i
invariant-loop-i l = Copied l.initial.out l.at l.bytes l.out l.i
