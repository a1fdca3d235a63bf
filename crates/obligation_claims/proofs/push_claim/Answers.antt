use native.Mathlib.Omega.{arith}
use lib.ListN.{length, length-take}
use Prim.Native.Nat.{◌≤◌}
use Rattle.cnf.specs.Inner.Appending.{Filled}
use Rattle.obligation_claims.specs.Inner.Claims.{claim_list}
use Rattle.obligation_claims.proofs.PushLaws.{claim_dropped, claim_words, words-narrow}
use Rattle.obligation_claims.proofs.push_claim.Goals as goal
use Rattle.obligation_claims.proofs.push_claim.Goals.{In-Some}

filled : (c : In-Some) → Filled (claim_list c.args.keys.now c.args.claim.now) c.fill_claim.new.list c.in-Some.n
filled c = c.fill_claim.ensures.when_words c.in-Some.n c.in-Some.is

within : (c : In-Some) → c.in-Some.n ≤ length c.fill_claim.new.list
within c =
    omega (arith, claim_words c.args.keys.now c.args.claim.now _ _ (filled c), c.requires.1.list_fits c.if-keys-le3.false, c.fill_claim.auto.list)

pub returns-in_default : goal.returns-in_default
returns-in_default c = claim_dropped _ _ _ c.fill_claim.ensures c.in_default.is _

pub slice_bounds-push_simplified-end : goal.slice_bounds-push_simplified-end
slice_bounds-push_simplified-end c = within (goal.at.slice_bounds-push_simplified-end c).In-Some

pub push_simplified-requires : goal.push_simplified-requires
push_simplified-requires c =
    let f = filled (goal.at.push_simplified-requires c).In-Some in (
      omega (arith, length-take c.in-Some.n c.fill_claim.new.list, claim_words c.args.keys.now c.args.claim.now _ _ f, c.requires.1.few_keys.few),
      c.requires.0,
      words-narrow c.args.keys.now c.args.claim.now _ _ f c.requires.1.few_keys.low,
    )
