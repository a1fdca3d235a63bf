use Rattle.obligation_claims.specs.Inner.Claims.{claim_list}
use Rattle.obligation_claims.proofs.FillLaws.{Filling}
use Rattle.obligation_claims.proofs.fill_claim.Given as goal

abbrev pub invariant-loop-key : goal.invariant-loop-key
invariant-loop-key l = Filling (claim_list l.keys l.claim) l.initial.list l.list l.key-index l.n
