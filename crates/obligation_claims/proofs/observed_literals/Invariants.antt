use Rattle.lists.proofs.PartLaws.{Copied}
use Rattle.obligation_claims.proofs.KeyLaws.{picked}
use Rattle.obligation_claims.proofs.observed_literals.Given as goal

abbrev pub invariant-loop-i : goal.invariant-loop-i
invariant-loop-i l = Copied l.initial.out 0 (picked l.outputs l.observed) l.out l.i
