use Rattle.witness_read.proofs.NumberedLaws.{latch-is}
use Rattle.witness_read.proofs.body.latch_numbered.Goals as goal

pub returns : goal.returns
returns c = search latch-is
