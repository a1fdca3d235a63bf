use mathlib.Core.Bool.{true}
use mathlib.Core.Path.{refl}
use Rattle.obligation_spec.specs.Lists.{outcomes_of}
use Rattle.obligation_spec.specs.Limits.{states_claimed, outcomes_claimed}
use Rattle.obligation_spec.specs.Calls.{circuit}
use Rattle.obligation_check.specs.Inner.Questions.{asked_in}
use Rattle.obligation.proofs.ClaimLaws.{both-second, both-first, state_test, states_test, outcomes_test, output_inside}
use Rattle.obligation.proofs.ReadyLaws.{sized_in, few-latches, few-outputs}
use Rattle.obligation.proofs.claim_holds.Goals as goal

pub is_state-requires : goal.is_state-requires
is_state-requires c = few-latches (asked_in c.args.accepted.now.question.now) c.args.accepted.now.asks (sized_in c.args.accepted.now.question.now)

pub states_claimed-requires : goal.states_claimed-requires
states_claimed-requires c = few-latches (asked_in c.args.accepted.now.question.now) c.args.accepted.now.asks (sized_in c.args.accepted.now.question.now)

pub is_state-requires-in-Transducer : goal.is_state-requires-in-Transducer
is_state-requires-in-Transducer c = few-latches (asked_in c.args.accepted.now.question.now) c.args.accepted.now.asks (sized_in c.args.accepted.now.question.now)

pub outcomes_claimed-requires : goal.outcomes_claimed-requires
outcomes_claimed-requires c =
    let q = asked_in c.args.accepted.now.question.now in
    let s = sized_in c.args.accepted.now.question.now in
    (few-latches q c.args.accepted.now.asks s, few-outputs q c.args.accepted.now.asks s)

pub states_claimed-requires-then-bad-counts : goal.states_claimed-requires-then-bad-counts
states_claimed-requires-then-bad-counts c = few-latches (asked_in c.args.accepted.now.question.now) c.args.accepted.now.asks (sized_in c.args.accepted.now.question.now)

pub returns-then-is_state : goal.returns-then-is_state
returns-then-is_state c =
    let q = asked_in c.args.accepted.now.question.now in
    let z = sized_in c.args.accepted.now.question.now in
    rw c.in-Relation.is (both-second _ _ _ _ (state_test q c.args.accepted.now.asks z c.in-Relation.source _ c.is_state.ensures) c.if-is_state.true (states_test q c.args.accepted.now.asks z c.in-Relation.targets.now _ c.states_claimed.ensures))

pub returns-else-is_state : goal.returns-else-is_state
returns-else-is_state c =
    let q = asked_in c.args.accepted.now.question.now in
    let z = sized_in c.args.accepted.now.question.now in
    rw c.in-Relation.is (both-first _ (states_claimed (circuit q) c.in-Relation.targets.now) _ (state_test q c.args.accepted.now.asks z c.in-Relation.source _ c.is_state.ensures) c.if-is_state.false)

pub returns-then-is_state-2 : goal.returns-then-is_state-2
returns-then-is_state-2 c =
    let q = asked_in c.args.accepted.now.question.now in
    let z = sized_in c.args.accepted.now.question.now in
    let t = c.in-Transducer in
    rw t.is (both-second _ _ _ _ (state_test q c.args.accepted.now.asks z t.source _ c.is_state-in-Transducer.ensures) c.if-is_state-2.true (outcomes_test q c.args.accepted.now.asks z t.observed.now t.outcomes.now _ c.outcomes_claimed.ensures))

pub returns-else-is_state-2 : goal.returns-else-is_state-2
returns-else-is_state-2 c =
    let q = asked_in c.args.accepted.now.question.now in
    let z = sized_in c.args.accepted.now.question.now in
    let t = c.in-Transducer in
    rw t.is (both-first _ (outcomes_claimed (circuit q) t.observed.now (outcomes_of t.outcomes.now)) _ (state_test q c.args.accepted.now.asks z t.source _ c.is_state-in-Transducer.ensures) c.if-is_state-2.false)

pub returns-then-bad-counts : goal.returns-then-bad-counts
returns-then-bad-counts c =
    let q = asked_in c.args.accepted.now.question.now in
    let z = sized_in c.args.accepted.now.question.now in
    rw c.in-Terminal.is (both-second _ _ true _ (output_inside q c.args.accepted.now.asks z c.in-Terminal.bad c.if-bad-counts.true) refl (states_test q c.args.accepted.now.asks z c.in-Terminal.states.now _ c.states_claimed-then-bad-counts.ensures))
