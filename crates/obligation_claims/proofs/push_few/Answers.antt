use native.Mathlib.Omega.{arith}
use Rattle.obligation_claims.proofs.PushLaws.{few-more, few-done, few-narrow, few-appends}
use Rattle.obligation_claims.proofs.push_few.Goals as goal

pub loop-i-preserved : goal.loop-i-preserved
loop-i-preserved c = few-more c.args.keys.now c.args.claim.now _ c.loop-i.i c.loop-i.invariant (omega arith) _ c.claim_literal.ensures

pub push_short-requires : goal.push_short-requires
push_short-requires c = (c.requires.0, few-narrow c.args.keys.now c.args.claim.now _ (few-done c.args.keys.now c.args.claim.now _ c.loop-i.i c.loop-i.invariant (omega arith)) c.requires.1.low)

pub returns : goal.returns
returns c = few-appends c.args.keys.now c.args.claim.now _ (few-done c.args.keys.now c.args.claim.now _ c.loop-i.i c.loop-i.invariant (omega arith)) _ _ c.push_short.ensures
