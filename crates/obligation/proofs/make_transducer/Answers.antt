use mathlib.Core.Path.{refl}
use native.Mathlib.Omega.{arith}
use Rattle.obligation_spec.specs.Calls.{circuit}
use Rattle.obligation_check.specs.Inner.Questions.{asked_in}
use Rattle.obligation.proofs.AssembleLaws.{in_order_lem, currents_list, nexts_list, low_list, few_list, low_list_out, transducer_ready, transducer_made}
use Rattle.obligation.proofs.ReadyLaws.{sized_in, few-observed}
use Rattle.obligation.proofs.make_transducer.Goals as goal

pub outcome_keys-count-requires : goal.outcome_keys-count-requires
outcome_keys-count-requires c =
    let q = asked_in c.args.accepted.now.question.now in
    let z = sized_in c.args.accepted.now.question.now in
    let e = nexts_list q _ _ c.nexts-next.ensures c.first-nexts.ensures in
    (record { few = few_list q c.args.accepted.now.asks z _ e; low = low_list q c.args.accepted.now.asks z _ e }, few-observed q c.args.accepted.now.asks z _ c.args.outcomes.now c.requires, omega arith, low_list_out q c.args.accepted.now.asks z _ c.first-outputs.ensures)

pub make-requires : goal.make-requires
make-requires c =
    let q = asked_in c.args.accepted.now.question.now in
    let ne = nexts_list q _ _ c.nexts-next.ensures c.first-nexts.ensures in
    let ce = currents_list q _ _ c.currents-now.ensures c.first.ensures in
    transducer_ready q c.args.accepted.now.asks (sized_in c.args.accepted.now.question.now) c.args.source _ (circuit q).inputs _ _ ce refl ne _ c.args.observed.now c.args.outcomes.now c.first-outputs.ensures c.requires (in_order_lem _ _ _ _ c.outcome_keys-count.ensures c.first-2.ensures)

pub returns : goal.returns
returns c =
    let q = asked_in c.args.accepted.now.question.now in
    let ne = nexts_list q _ _ c.nexts-next.ensures c.first-nexts.ensures in
    let ce = currents_list q _ _ c.currents-now.ensures c.first.ensures in
    transducer_made q c.args.accepted.now.asks (sized_in c.args.accepted.now.question.now) c.args.source _ (circuit q).inputs _ _ ce refl ne _ c.args.observed.now c.args.outcomes.now c.first-outputs.ensures c.requires (in_order_lem _ _ _ _ c.outcome_keys-count.ensures c.first-2.ensures) _ _ _ c.make.ensures
