use mathlib.Core.Path.{◌∙◌}
use Rattle.obligation.proofs.MakingLaws.{count_same}
use Rattle.obligation.proofs.RoomLaws.{made_roomy}
use Rattle.obligation.proofs.making.make.Goals as goal

pub returns-then-roomy : goal.returns-then-roomy
returns-then-roomy c =
    record {
      same = c.append_all.ensures.same;
      made = made_roomy _ _ _ c.requires _ _ _ (c.count.ensures ∙ count_same _) (c.roomy.ensures c.if-roomy.true) _ _ _ c.append_all.ensures.holding;
    }
