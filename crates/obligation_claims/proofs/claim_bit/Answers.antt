use Rattle.obligation_claims.proofs.FillLaws.{bit-is}
use Rattle.obligation_claims.proofs.claim_bit.Goals as goal

pub returns : goal.returns
returns c = rw c.word.ensures (bit-is c.args.claim.now c.args.place)
