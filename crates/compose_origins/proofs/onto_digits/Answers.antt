use Rattle.compose_origins.proofs.MappingLaws.{onto_unreadable, onto_readable}
use Rattle.compose_origins.proofs.onto_digits.Goals as goal

pub returns-in-None : goal.returns-in-None
returns-in-None c = search onto_unreadable

pub returns-in-Some : goal.returns-in-Some
returns-in-Some c = search onto_readable
