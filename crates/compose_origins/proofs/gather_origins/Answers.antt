use borrow.Author.Rules.{rules}
use Rattle.compose_origins.proofs.AllLaws.{mapping-none, mapping-behind, mapping-can, mapping_wrong, mapping-more, mapping-end}
use Rattle.compose_origins.proofs.gather_origins.Goals as goal

pub loop-w-init : goal.loop-w-init
loop-w-init c = search (rules, mapping-none)

pub after_words-next-requires : goal.after_words-next-requires
after_words-next-requires c = search mapping-behind

pub witness_origins-requires : goal.witness_origins-requires
witness_origins-requires c = search mapping-can

pub returns-in_err-at : goal.returns-in_err-at
returns-in_err-at c = rw c.from_residual.ensures (search (mapping_wrong, c.in_err-at.ensures))

pub loop-w-preserved : goal.loop-w-preserved
loop-w-preserved c = (search (mapping-more, c.in_ok-at.ensures), search rules)

pub returns : goal.returns
returns c = search mapping-end
