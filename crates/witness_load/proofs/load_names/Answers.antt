use borrow.Author.Rules.{rules}
use Rattle.lists.proofs.ZeroLaws.{zeros-kept}
use Rattle.witness_load.proofs.load_names.Goals as goal

pub name_leaves-requires : goal.name_leaves-requires
name_leaves-requires c = (search rules, search rules, search zeros-kept)
