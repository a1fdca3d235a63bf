use mathlib.Core.Path.{refl}
use native.Mathlib.Omega.{arith}
use Rattle.obligation_spec.specs.Calls.{circuit}
use Rattle.obligation_check.specs.Inner.Questions.{asked_in}
use Rattle.obligation.proofs.AssembleLaws.{in_order_lem, currents_list, bad_output, low_list_now, few_list_now, terminal_list_ready, terminal_made, output-low}
use Rattle.obligation.proofs.ReadyLaws.{sized_in}
use Rattle.obligation.proofs.make_terminal.Goals as goal

pub state_keys-count-requires : goal.state_keys-count-requires
state_keys-count-requires c =
    let q = asked_in c.args.accepted.now.question.now in
    let z = sized_in c.args.accepted.now.question.now in
    let e = currents_list q _ _ c.currents-now.ensures c.first.ensures in
    let few = few_list_now q c.args.accepted.now.asks z _ e in
    (record { few = omega (arith, few); low = low_list_now q c.args.accepted.now.asks z _ e }, omega (arith, few))

pub opposite_of-requires : goal.opposite_of-requires
opposite_of-requires c =
    let q = asked_in c.args.accepted.now.question.now in
    output-low q c.args.accepted.now.asks (sized_in c.args.accepted.now.question.now) c.args.bad _ (bad_output q c.args.bad _ _ c.first-outputs.ensures c.word.ensures)

pub make-requires : goal.make-requires
make-requires c =
    let q = asked_in c.args.accepted.now.question.now in
    let ce = currents_list q _ _ c.currents-now.ensures c.first.ensures in
    terminal_list_ready q c.args.accepted.now.asks (sized_in c.args.accepted.now.question.now) _ _ (circuit q).inputs _ ce c.first-2.ensures refl (in_order_lem _ _ _ _ c.state_keys-count.ensures c.first-3.ensures) c.args.bad _ _ (bad_output q c.args.bad _ _ c.first-outputs.ensures c.word.ensures) c.opposite_of.ensures _ c.requires

pub returns : goal.returns
returns c =
    let q = asked_in c.args.accepted.now.question.now in
    let ce = currents_list q _ _ c.currents-now.ensures c.first.ensures in
    terminal_made q c.args.accepted.now.asks (sized_in c.args.accepted.now.question.now) _ _ (circuit q).inputs _ ce c.first-2.ensures refl (in_order_lem _ _ _ _ c.state_keys-count.ensures c.first-3.ensures) c.args.bad _ _ (bad_output q c.args.bad _ _ c.first-outputs.ensures c.word.ensures) c.opposite_of.ensures c.args.states.now _ _ _ c.make.ensures
