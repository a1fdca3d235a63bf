use Rattle.compose_origins.proofs.LoopLaws.{Storing}
use Rattle.compose_origins.proofs.store_origins.Given as goal

abbrev pub invariant-loop-k : goal.invariant-loop-k
invariant-loop-k l = Storing l.model_leaves l.text l.names l.named l.w l.initial.origins l.origins l.k
