use Rattle.witness_read.proofs.NumberedLaws.{literal-is}
use Rattle.witness_read.proofs.body.literal_holds.Goals as goal

pub returns : goal.returns
returns c = search literal-is
