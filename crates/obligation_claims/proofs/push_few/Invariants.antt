use Rattle.lists.proofs.PartLaws.{Copied}
use Rattle.obligation_claims.specs.Inner.Claims.{claim_list}
use Rattle.obligation_claims.proofs.PushLaws.{three}
use Rattle.obligation_claims.proofs.push_few.Given as goal

abbrev pub invariant-loop-i : goal.invariant-loop-i
invariant-loop-i l = Copied three 0 (claim_list l.keys l.claim) l.clause l.i
