use Rattle.obligation_claims.proofs.KeyLaws.{outcome-put}
use Rattle.obligation_claims.proofs.add_outcome_keys.Goals as goal

pub returns : goal.returns
returns c = outcome-put c.args.keys.now c.args.nexts.now c.args.literals.now _ _ c.add_keys.ensures c.observed_keys.ensures
