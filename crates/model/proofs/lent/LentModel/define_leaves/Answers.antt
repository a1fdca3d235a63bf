use Rattle.model.specs.Inner.Lent.{lent_record}
use Rattle.model.proofs.CheckedLaws.{leaves-both, leaves_lost}
use Rattle.model.proofs.lent.LentModel.define_leaves.Goals as goal

pub returns-then-define_all : goal.returns-then-define_all
returns-then-define_all c =
    leaves-both (lent_record c.args.self.now) _ _ c.first-inputs.ensures _ _ c.define_all.ensures c.if-define_all.true _ _ c.currents-currents.ensures c.first.ensures _ _ c.define_all-then-define_all.ensures

pub returns-else-define_all : goal.returns-else-define_all
returns-else-define_all c = leaves_lost (lent_record c.args.self.now) _ _ c.first-inputs.ensures _ _ c.define_all.ensures c.if-define_all.false
