use borrow.Author.Rules.{rules}
use Rattle.key_table.specs.Inner.Table.{code_of}
use Rattle.key_table.proofs.turn.Goals as goal

pub returns : goal.returns
unfolding code_of
returns c = search rules
