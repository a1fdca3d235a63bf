use borrow.Author.Rules.{rules}
use Rattle.model_read.proofs.ModelLaws.{gates_undefined, literals_good, literals-above}
use Rattle.model_read.proofs.check_model.Goals as goal
use Rattle.model_read.proofs.check_model.Goals.{then-not-good-via-then-not-good, then-not-good-via-else-not-good+then-not-literals_hold}

pub returns-then-not-good : goal.returns-then-not-good
returns-then-not-good c =
    let lines = c.check_gates.ensures in
    elim c.then-not-good.branch [
      | then-not-good-via-then-not-good w ↦ gates_undefined c.args.s.now _ c.from-lent.result c.from-lent.ensures _ c.requires.0 c.requires.1 _ _ c.define_leaves-fine.ensures _ lines _ c.in-Some.is (search rules)
      | then-not-good-via-else-not-good+then-not-literals_hold w ↦ literals-above c.args.s.now _ c.from-lent.result c.from-lent.ensures _ c.requires.0 c.requires.1 _ _ c.define_leaves-fine.ensures _ lines _ c.in-Some.is (search rules) w.literals_hold.result w.literals_hold.ensures (search rules)
    ]

pub returns : goal.returns
returns c =
    literals_good c.args.s.now _ c.from-lent.result c.from-lent.ensures _ c.requires.0 c.requires.1 _ _ c.define_leaves-fine.ensures _ c.check_gates.ensures _ c.in-Some.is (search rules) c.literals_hold.result c.literals_hold.ensures (search rules)
