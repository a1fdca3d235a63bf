use mathlib.Core.Path.{refl}
use native.Mathlib.Omega.{arith}
use Rattle.obligation_spec.specs.Calls.{circuit}
use Rattle.obligation_check.specs.Inner.Questions.{asked_in}
use Rattle.obligation.proofs.AssembleLaws.{in_order_lem, currents_list, nexts_list, low_list, few_list, relation_ready, relation_made}
use Rattle.obligation.proofs.ReadyLaws.{sized_in}
use Rattle.obligation.proofs.make_relation.Goals as goal

pub state_keys-count-requires : goal.state_keys-count-requires
state_keys-count-requires c =
    let q = asked_in c.args.accepted.now.question.now in
    let z = sized_in c.args.accepted.now.question.now in
    let e = nexts_list q _ _ c.nexts-next.ensures c.first.ensures in
    let few = few_list q c.args.accepted.now.asks z _ e in
    (record { few = omega (arith, few); low = low_list q c.args.accepted.now.asks z _ e }, omega (arith, few))

pub make-requires : goal.make-requires
make-requires c =
    let q = asked_in c.args.accepted.now.question.now in
    let ne = nexts_list q _ _ c.nexts-next.ensures c.first.ensures in
    let ce = currents_list q _ _ c.currents-now.ensures c.first-2.ensures in
    relation_ready q c.args.accepted.now.asks (sized_in c.args.accepted.now.question.now) c.args.source _ (circuit q).inputs _ _ ce refl ne (in_order_lem _ _ _ _ c.state_keys-count.ensures c.first-3.ensures) _ c.requires

pub returns : goal.returns
returns c =
    let q = asked_in c.args.accepted.now.question.now in
    let ne = nexts_list q _ _ c.nexts-next.ensures c.first.ensures in
    let ce = currents_list q _ _ c.currents-now.ensures c.first-2.ensures in
    relation_made q c.args.accepted.now.asks (sized_in c.args.accepted.now.question.now) c.args.source _ (circuit q).inputs _ _ ce refl ne (in_order_lem _ _ _ _ c.state_keys-count.ensures c.first-3.ensures) c.args.targets.now _ _ _ c.make.ensures
