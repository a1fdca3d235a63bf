use Rattle.obligation_check.proofs.BoundaryLaws.{states_fall, states_rise}
use Rattle.obligation_check.proofs.states_claimed.Goals as goal

pub returns-then-rises : goal.returns-then-rises
returns-then-rises c = search states_rise

pub returns-else-rises : goal.returns-else-rises
returns-else-rises c = search states_fall
