use borrow.Author.Rules.{rules}
use Rattle.obligation_check.specs.Inner.Questions.{asked_in}
use Rattle.obligation_check.proofs.BoundaryLaws.{check_valid, check_13}
use Rattle.obligation_check.proofs.Question.check.Goals as goal

pub returns-then-not-boundary_holds : goal.returns-then-not-boundary_holds
returns-then-not-boundary_holds c = check_13 (asked_in c.args.self.now) _ _ _ c.validate.ensures _ c.in_ok-validate.was _ c.boundary_holds.ensures (search rules)

pub returns : goal.returns
returns c = check_valid (asked_in c.args.self.now) _ _ _ c.validate.ensures _ c.in_ok-validate.was _ c.boundary_holds.ensures (search rules)
