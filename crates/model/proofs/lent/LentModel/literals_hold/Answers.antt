use Rattle.model.specs.Inner.Lent.{lent_record}
use Rattle.model.proofs.CheckedLaws.{literals-both, literals_lost}
use Rattle.model.proofs.lent.LentModel.literals_hold.Goals as goal

pub returns-then-within : goal.returns-then-within
returns-then-within c =
    literals-both (lent_record c.args.self.now) _ _ c.nexts-nexts.ensures c.first.ensures _ c.within.ensures c.if-within.true _ c.first-then-within.ensures _ c.within-then-within.ensures

pub returns-else-within : goal.returns-else-within
returns-else-within c = literals_lost (lent_record c.args.self.now) _ _ c.nexts-nexts.ensures c.first.ensures _ c.within.ensures c.if-within.false
