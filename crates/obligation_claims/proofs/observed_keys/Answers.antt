use native.Mathlib.Omega.{arith}
use Rattle.obligation_claims.proofs.KeyLaws.{halves_few, halves_length, halves_low, halves_high, halves_put}
use Rattle.obligation_claims.proofs.observed_keys.Goals as goal

pub add_keys-requires : goal.add_keys-requires
add_keys-requires c =
    let few = halves_few c.args.literals.now c.first-low.result.now c.cut-high.result.now c.first-low.ensures c.cut-high.ensures in
    let all = halves_length c.args.literals.now c.first-low.result.now c.cut-high.result.now c.first-low.ensures c.cut-high.ensures in
    (omega (arith, few, all, c.requires.0), omega (arith, few), halves_low c.args.literals.now c.first-low.result.now c.cut-high.result.now c.first-low.ensures c.cut-high.ensures c.requires.1.low)

pub add_keys-requires-2 : goal.add_keys-requires-2
add_keys-requires-2 c =
    let few = halves_few c.args.literals.now c.first-low.result.now c.cut-high.result.now c.first-low.ensures c.cut-high.ensures in
    let all = halves_length c.args.literals.now c.first-low.result.now c.cut-high.result.now c.first-low.ensures c.cut-high.ensures in
    (omega (arith, few, all, c.requires.0, c.add_keys.auto.keys), omega (arith, few, all, c.requires.1.few), halves_high c.args.literals.now c.first-low.result.now c.cut-high.result.now c.first-low.ensures c.cut-high.ensures c.requires.1.low)

pub returns : goal.returns
returns c = halves_put c.args.keys.now c.args.at c.args.literals.now _ _ _ _ c.first-low.ensures c.cut-high.ensures (omega (arith, c.requires.0)) c.add_keys.ensures c.add_keys-2.ensures
