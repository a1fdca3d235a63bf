use Rattle.compose.proofs.LaidLaws.{measured}
use Rattle.compose.proofs.measure.Goals as goal

pub returns : goal.returns
returns c = search measured
