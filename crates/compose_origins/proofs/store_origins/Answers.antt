use borrow.Author.Rules.{rules}
use Rattle.compose_origins.proofs.LoopLaws.{storing-none, storing-few, storing-says, storing_wrong, storing-more, storing-end}
use Rattle.compose_origins.proofs.store_origins.Goals as goal

pub loop-k-init : goal.loop-k-init
loop-k-init c = search (rules, storing-none)

pub name_at-name-requires : goal.name_at-name-requires
name_at-name-requires c = search storing-says

pub mapping_of-requires : goal.mapping_of-requires
mapping_of-requires c = search storing-few

pub loop-k-preserved : goal.loop-k-preserved
loop-k-preserved c = search (storing-more, c.in_ok-origins.ensures)

pub returns-in_err-origins : goal.returns-in_err-origins
returns-in_err-origins c = rw c.from_residual.ensures (search (storing_wrong, c.in_err-origins.ensures))

pub returns : goal.returns
returns c = search storing-end
