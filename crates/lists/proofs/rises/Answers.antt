use borrow.Author.Rules.{rules}
use Rattle.lists.proofs.RisingLaws.{rises-end}
use Rattle.lists.proofs.rises.Goals as goal

pub returns : goal.returns
returns c = search (rules, rises-end)
