use Rattle.model_step.proofs.StepLaws.{Running}
use Rattle.model_step.proofs.run_gates.Given as goal

abbrev pub invariant-loop-i : goal.invariant-loop-i
invariant-loop-i g l = Running l.initial.values (g.G.GateList.words l.gates) l.values l.i
