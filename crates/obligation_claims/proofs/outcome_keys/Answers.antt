use mathlib.Core.Path.{◌≡◌, refl}
use native.Mathlib.Omega.{arith}
use borrow.Author.Rules.{rules}
use Rattle.obligation_claims.proofs.KeyLaws.{picked, picked_back, picked_few, picked_lows, sorted_front, outcome-order}
use Rattle.obligation_claims.proofs.outcome_keys.Goals as goal

pub add_outcome_keys-requires : goal.add_outcome_keys-requires
add_outcome_keys-requires c =
    let e : c.first.result.now ≡ picked c.args.outputs.now c.args.observed.now =
    picked_back c.args.outputs.now c.args.observed.now c.first.result.now _ _ _ refl c.observed_literals.ensures c.first.ensures in
    (c.requires.0, record { few = picked_few c.args.outputs.now c.args.observed.now _ e c.requires.1; low = picked_lows c.args.outputs.now c.args.observed.now _ e c.requires.3 }, c.requires.2)

pub returns : goal.returns
returns c =
    let e : c.first.result.now ≡ picked c.args.outputs.now c.args.observed.now =
    picked_back c.args.outputs.now c.args.observed.now c.first.result.now _ _ _ refl c.observed_literals.ensures c.first.ensures in
    outcome-order c.args.outputs.now c.args.observed.now c.first.result.now e _ c.args.nexts.now _ _ _ c.add_outcome_keys.ensures refl (search rules) c.requires.0.few c.requires.1 c.requires.2 c.add_outcome_keys.auto.keys (sorted_front c.add_outcome_keys.new.keys c.sort.new.s _ (omega (arith, c.add_outcome_keys.auto.keys, c.requires.0.few, c.requires.1, c.requires.2)) c.sort.ensures)
