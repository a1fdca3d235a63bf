use borrow.Author.Rules.{rules}
use Rattle.lists.proofs.PairLaws.{ordering-more, ordering-end}
use Rattle.lists.proofs.in_order.Goals as goal

pub loop-i-preserved : goal.loop-i-preserved
loop-i-preserved c = search (rules, ordering-more)

pub returns : goal.returns
returns c = search ordering-end
