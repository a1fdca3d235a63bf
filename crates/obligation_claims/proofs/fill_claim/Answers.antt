use native.Mathlib.Omega.{arith}
use Rattle.obligation_claims.proofs.FillLaws.{claiming_true, claiming_false, claiming_word}
use Rattle.obligation_claims.proofs.fill_claim.Goals as goal
use Rattle.obligation_claims.proofs.fill_claim.Goals.{then-literal-ge2, else-literal-ge2}

pub returns-then-literal-eq1 : goal.returns-then-literal-eq1
returns-then-literal-eq1 c = claiming_true c.args.keys.now c.args.claim.now _ _ c.loop-key.key-index _ c.loop-key.invariant (omega arith) _ c.claim_literal-literal.ensures c.if-literal-eq1.true

pub loop-key-preserved : goal.loop-key-preserved
loop-key-preserved c =
    elim c.if-literal-ge2.branch [
      | then-literal-ge2 w ↦ rw (w.list-is, w.n-is) (claiming_word c.args.keys.now c.args.claim.now _ _ c.loop-key.key-index _ c.loop-key.invariant (omega arith) _ c.claim_literal-literal.ensures _ (omega arith) w.word.ensures c.requires.few)
      | else-literal-ge2 w ↦ rw (w.list-is, w.n-is) (claiming_false c.args.keys.now c.args.claim.now _ _ c.loop-key.key-index _ c.loop-key.invariant (omega arith) _ c.claim_literal-literal.ensures (omega arith) c.if-literal-eq1.false)
    ]
