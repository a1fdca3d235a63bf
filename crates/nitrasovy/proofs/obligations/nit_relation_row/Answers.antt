use mathlib.Core.Path.{subst}
use Rattle.obligation_spec.specs.Calls.{Asked}
use Rattle.obligation_check.specs.Inner.Questions.{asked_in}
use Rattle.obligation.specs.Promise.{buffers_of}
use Rattle.nitrasovy.specs.FlatObligations.{RelationFlat}
use Rattle.nitrasovy.proofs.MadeLaws.{relation_flat}
use Rattle.nitrasovy.proofs.obligations.nit_relation_row.Goals as goal

pub returns : goal.returns
returns c =
    let b = buffers_of c.args.pairs.now c.args.literals.now c.args.work.now in
    let after = buffers_of c.make.new.pairs c.make.new.literals c.make.new.work in
    subst (λ (q : Asked). RelationFlat q c.args.source c.args.targets.now b c.from.result after) c.question-question.ensures
    (relation_flat (asked_in c.question-question.result) b c.make.result after c.from.result c.from.ensures c.args.source c.args.targets.now c.make.ensures)
