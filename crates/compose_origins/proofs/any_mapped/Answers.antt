use borrow.Author.Rules.{rules}
use Rattle.compose_origins.proofs.LoopLaws.{testing-none, testing-says, testing-true, testing-more, testing-end}
use Rattle.compose_origins.proofs.any_mapped.Goals as goal

pub loop-i-init : goal.loop-i-init
loop-i-init c = search (rules, testing-none)

pub name_at-requires : goal.name_at-requires
name_at-requires c = search testing-says

pub returns-then-is_mapped : goal.returns-then-is_mapped
returns-then-is_mapped c = search testing-true

pub loop-i-preserved : goal.loop-i-preserved
loop-i-preserved c = search testing-more

pub returns : goal.returns
returns c = search testing-end
