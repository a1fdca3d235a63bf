use lib.ListN.{length}
use borrow.Author.Rules.{rules}
use Rattle.std.proofs.lemmas.Result.{err_from_is_err_and}
use Rattle.obligation_check.specs.Inner.Questions.{asked_in}
use Rattle.obligation.proofs.CallLaws.{asks, call_refused, call_unclaimed, call_made}
use Rattle.obligation.proofs.ReadyLaws.{sized_in}
use Rattle.obligation.proofs.make.Goals as goal

pub returns-in_err-check : goal.returns-in_err-check
returns-in_err-check c =
    let p = err_from_is_err_and c.from_residual.result c.from_residual.ensures.1 in
    rw (p.1, p.2) (call_refused (asked_in c.args.question.now) (sized_in c.args.question.now) c.args.claim c.args.pairs.now c.args.literals.now c.args.work.now _ _ c.check.ensures _ c.in_err-check.was)

pub invariant_of-accepted : goal.invariant_of-accepted
invariant_of-accepted c = record { asks = asks (asked_in c.args.question.now) (length c.args.work.now) _ _ c.check.ensures _ c.in_ok-check.was }

pub returns-then-not-claim_holds : goal.returns-then-not-claim_holds
returns-then-not-claim_holds c =
    call_unclaimed (asked_in c.args.question.now) (sized_in c.args.question.now) c.args.claim c.args.pairs.now c.args.literals.now c.args.work.now _ _ c.check.ensures _ c.in_ok-check.was _ c.claim_holds.ensures (search rules)

pub returns : goal.returns
returns c =
    let a = call_made (asked_in c.args.question.now) (sized_in c.args.question.now) c.args.claim c.args.pairs.now c.args.literals.now c.args.work.now _ _ c.check.ensures _ c.in_ok-check.was _ c.claim_holds.ensures (search rules) _ _ _ c.make_accepted.ensures.made in
    search rules
