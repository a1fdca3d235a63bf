use Rattle.model_step.proofs.StepLaws.{gate_runs}
use Rattle.model_step.proofs.run_gate.Goals as goal

pub returns : goal.returns
returns c = gate_runs _ _ c.requires _ _ _ c.place.ensures c.value_of.ensures c.value_of-2.ensures
