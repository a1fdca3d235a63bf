use Rattle.compose_names.proofs.WitnessLaws.{passed_is}
use Rattle.compose_names.proofs.pass.Goals as goal

pub returns : goal.returns
returns c = search passed_is
