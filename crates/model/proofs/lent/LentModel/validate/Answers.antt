use Prim.Native.Nat.{◌/◌}
use native.Mathlib.Omega.{arith}
use lib.ListN.{length}
use borrow.Author.Rules.{rules}
use Rattle.model.specs.Inner.Lent.{lent_record}
use Rattle.model.proofs.CheckedLaws.{checkable, check_room, check_limits, check_fails, check_holds}
use Rattle.model.proofs.lent.LentModel.validate.Goals as goal
use Rattle.model.proofs.lent.LentModel.validate.Goals.{then-not-limits_hold-via-then-not-limits_hold, then-not-limits_hold-via-else-not-limits_hold+then-not-definitions_hold}

pub returns-then-work-self : goal.returns-then-work-self
returns-then-work-self g c = record { judges = check_room _ _ (length (g.G.GateList.words c.args.gates.now) / 3) _ (search rules) (omega arith); clears = search rules }

pub definitions_hold-requires : goal.definitions_hold-requires
definitions_hold-requires g c = checkable (lent_record c.args.self.now) _ _ c.count.result (length c.args.work.now) c.count.ensures (search rules) (omega arith) (search rules)

pub returns-then-not-limits_hold : goal.returns-then-not-limits_hold
returns-then-not-limits_hold g c =
    elim c.then-not-limits_hold.branch [
      | then-not-limits_hold-via-then-not-limits_hold w ↦ record { judges = check_limits _ _ c.count.result _ c.count.ensures (omega arith) c.limits_hold.result c.limits_hold.ensures (search rules); clears = search rules }
      | then-not-limits_hold-via-else-not-limits_hold+then-not-definitions_hold w ↦ record {
        judges = check_fails _ _ c.count.result _ c.count.ensures (omega arith) c.limits_hold.result c.limits_hold.ensures (search rules) w.definitions_hold.result w.definitions_hold.ensures.0 (search rules);
        clears = search rules;
      }
    ]

pub returns : goal.returns
returns g c =
    record {
      judges = check_holds _ _ c.count.result _ c.count.ensures (omega arith) c.limits_hold.result c.limits_hold.ensures (search rules) c.definitions_hold.result c.definitions_hold.ensures.0 (search rules);
      clears = search rules;
    }
