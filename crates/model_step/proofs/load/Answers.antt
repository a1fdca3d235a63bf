use Rattle.model_step.proofs.StepLaws.{loading-inside, loading-more}
use Rattle.model_step.proofs.load.Goals as goal

pub loop-k-preserved : goal.loop-k-preserved
loop-k-preserved c = search (loading-inside, loading-more)
