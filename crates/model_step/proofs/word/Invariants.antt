use Rattle.model_step.proofs.StepLaws.{Packing}
use Rattle.model_step.proofs.word.Given as goal

abbrev pub invariant-loop-k : goal.invariant-loop-k
invariant-loop-k l = Packing l.values l.literals l.k l.word
