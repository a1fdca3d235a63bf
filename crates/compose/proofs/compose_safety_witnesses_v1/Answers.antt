use Rattle.compose.proofs.TopLaws.{promised}
use Rattle.compose.proofs.compose_safety_witnesses_v1.Goals as goal

pub returns : goal.returns
returns c = search promised
