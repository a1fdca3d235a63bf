use Rattle.nitrasovy.proofs.ModelLaws.{reads_got, reads_refused}
use Rattle.nitrasovy.proofs.models.nit_read_transition.Goals as goal

pub returns-in-Ok : goal.returns-in-Ok
returns-in-Ok c = reads_got c.args.text.now c.args.gates.now c.args.work.now _ _ _ c.parse_ascii_aiger_transition.ensures _ c.in-Ok.is

pub returns-in-Err : goal.returns-in-Err
returns-in-Err c = reads_refused c.args.text.now c.args.gates.now c.args.work.now _ _ _ c.parse_ascii_aiger_transition.ensures _ c.in-Err.is _ c.from.ensures _ c.no_model.ensures
