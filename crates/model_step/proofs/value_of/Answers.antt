use Rattle.model_step.proofs.StepLaws.{value-is}
use Rattle.model_step.proofs.value_of.Goals as goal

pub returns : goal.returns
returns c = search value-is
