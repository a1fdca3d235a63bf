use Rattle.nitrasovy.proofs.ModelLaws.{words_stepped}
use Rattle.nitrasovy.proofs.models.nit_step.Goals as goal

pub returns : goal.returns
returns c = words_stepped c.args.model.now c.args.gates.now c.args.work.now c.from_words-lent.result c.from_words-lent.ensures c.args.state c.args.input _ c.evaluate.ensures.0 _ c.evaluate.ensures.1 _ c.from.ensures
