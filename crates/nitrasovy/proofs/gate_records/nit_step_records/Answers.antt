use Rattle.lists.specs.Words.{words_of}
use Rattle.aiger.specs.Gates.{gate_words}
use Rattle.model.specs.RecordWords.{record_in}
use Rattle.nitrasovy.proofs.ModelLaws.{steps_flat}
use Rattle.nitrasovy.proofs.gate_records.nit_step_records.Goals as goal

pub returns : goal.returns
returns c =
    steps_flat (record_in c.args.model.now) (words_of gate_words c.args.gates.now) c.args.work.now c.args.state c.args.input c.evaluate_records.result
    c.evaluate_records.ensures.0 c.evaluate_records.new.work c.evaluate_records.ensures.1 c.from.result c.from.ensures
