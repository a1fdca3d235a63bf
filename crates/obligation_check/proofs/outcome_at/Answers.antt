use Rattle.obligation_check.proofs.OutcomeLaws.{outcome-is}
use Rattle.obligation_check.proofs.outcome_at.Goals as goal

pub returns : goal.returns
returns c = search outcome-is
