use borrow.Author.Rules.{rules}
use Rattle.compose_gather.proofs.BlockLaws.{loading-none, loading-loadable, loading-more, loading-end}
use Rattle.compose_gather.proofs.load_all.Goals as goal

pub loop-w-init : goal.loop-w-init
loop-w-init c = search (rules, loading-none)

pub load_at-at-requires : goal.load_at-at-requires
load_at-at-requires c = search loading-loadable

pub loop-w-preserved : goal.loop-w-preserved
loop-w-preserved c = (search loading-more, search rules)

pub returns : goal.returns
returns c = search loading-end
