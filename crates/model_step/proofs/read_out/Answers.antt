use Rattle.model_step.proofs.StepLaws.{read_low, read_high, read_all}
use Rattle.model_step.proofs.read_out.Goals as goal

pub word-requires-2 : goal.word-requires-2
word-requires-2 c = read_high _ _ _ _ c.requires c.cut.ensures

pub word-requires-3 : goal.word-requires-3
word-requires-3 c = read_low _ _ _ _ c.requires c.first.ensures

pub returns : goal.returns
returns c = search read_all
