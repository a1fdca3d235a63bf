use Rattle.compose_origins.proofs.LoopLaws.{Testing}
use Rattle.compose_origins.proofs.any_mapped.Given as goal

abbrev pub invariant-loop-i : goal.invariant-loop-i
invariant-loop-i l = Testing l.text l.words l.i
