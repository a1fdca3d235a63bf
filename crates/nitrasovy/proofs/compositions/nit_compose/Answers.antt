use Rattle.nitrasovy.proofs.ComposedLaws.{composes_flat}
use Rattle.nitrasovy.proofs.compositions.nit_compose.Goals as goal

pub returns : goal.returns
returns c = search composes_flat
