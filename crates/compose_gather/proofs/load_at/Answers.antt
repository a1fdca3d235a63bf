use borrow.Author.Rules.{rules}
use Rattle.compose_gather.proofs.BlockLaws.{lent-loadable, loads-back}
use Rattle.compose_gather.proofs.load_at.Goals as goal

pub load-requires : goal.load-requires
load-requires c = search lent-loadable

pub returns : goal.returns
returns c = search (rules, loads-back)
