use Rattle.witness_read.proofs.NumberedLaws.{gate-is}
use Rattle.witness_read.proofs.body.gate_numbered.Goals as goal

pub returns : goal.returns
returns c = search gate-is
