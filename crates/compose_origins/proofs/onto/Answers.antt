use Rattle.compose_origins.proofs.MappingLaws.{onto_it}
use Rattle.compose_origins.proofs.onto.Goals as goal

pub returns : goal.returns
returns c = search onto_it
