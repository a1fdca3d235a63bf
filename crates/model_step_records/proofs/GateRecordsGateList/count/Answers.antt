use Rattle.model_step_records.proofs.RecordLaws.{records_count}
use Rattle.model_step_records.proofs.GateRecordsGateList.count.Goals as goal

pub returns : goal.returns
returns c = records_count c.args.self.now.gates.now
