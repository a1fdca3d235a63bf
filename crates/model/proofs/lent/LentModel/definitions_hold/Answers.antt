use mathlib.Core.Path.{◌≡◌, ◌∙◌}
use lib.ListN.{length}
use borrow.Author.Rules.{rules}
use Rattle.lists.specs.Parts.{zeros}
use Rattle.model.proofs.CheckedLaws.{definitions-say, definitions_lost}
use Rattle.model.proofs.lent.LentModel.definitions_hold.Goals as goal
use Rattle.model.proofs.lent.LentModel.definitions_hold.Goals.{then-define_leaves, else-define_leaves}

pub returns : goal.returns
returns g c =
    let clear : c.fill.new.self ≡ zeros (length c.args.marks.now) = search rules in (
      elim c.if-define_leaves.branch [
        | then-define_leaves w ↦ w.defined-is ∙ definitions-say _ _ _ _ c.requires _ _ _ c.define_leaves.ensures w.if-define_leaves.true _ _ _ w.define_gates-defined.ensures
        | else-define_leaves w ↦ w.defined-is ∙ definitions_lost _ _ _ _ c.requires _ _ _ c.define_leaves.ensures w.if-define_leaves.false _
      ],
      clear,
    )
