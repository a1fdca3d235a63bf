use Rattle.compose.proofs.ChainLaws.{fitting_wrong, fitting_laid, fitting-composed}
use Rattle.compose.proofs.compose_fitting.Goals as goal

pub returns-in_default : goal.returns-in_default
returns-in_default c = search fitting_wrong

pub compose_laid-requires : goal.compose_laid-requires
compose_laid-requires c = search fitting_laid

pub returns : goal.returns
returns c = search fitting-composed
