use borrow.Author.Rules.{rules}
use Rattle.key_table.specs.Inner.Table.{head_of}
use Rattle.key_table.proofs.head.Goals as goal

pub returns : goal.returns
unfolding head_of
returns c = search rules
