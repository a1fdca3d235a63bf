use Rattle.compose_origins.proofs.WitnessLaws.{witness-says, witness_tested}
use Rattle.compose_origins.proofs.maps_by_name.Goals as goal

pub any_mapped-requires : goal.any_mapped-requires
any_mapped-requires c = search witness-says

pub returns : goal.returns
returns c = search witness_tested
