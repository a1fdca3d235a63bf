use borrow.Author.Rules.{rules}
use Rattle.key_table.specs.Inner.Table.{mix_of}
use Rattle.key_table.proofs.mix.Goals as goal

pub returns : goal.returns
unfolding mix_of
returns c = search rules
