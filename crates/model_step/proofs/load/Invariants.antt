use Rattle.model_step.proofs.StepLaws.{Loading}
use Rattle.model_step.proofs.load.Given as goal

abbrev pub invariant-loop-k : goal.invariant-loop-k
invariant-loop-k l = Loading l.initial.values l.literals l.word l.values l.k
