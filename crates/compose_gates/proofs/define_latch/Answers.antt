use Rattle.compose_gates.proofs.LatchLaws.{latch_new}
use Rattle.compose_gates.proofs.define_latch.Goals as goal

pub returns : goal.returns
returns c = search latch_new
