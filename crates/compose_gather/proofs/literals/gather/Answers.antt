use borrow.Author.Rules.{rules}
use Rattle.compose_gather.proofs.GatherLaws.{gathering-none, gathering-end}
use Rattle.compose_gather.proofs.TurnLaws.{gather-before, gather-behind, gather-can, gather-more}
use Rattle.compose_gather.proofs.literals.gather.Goals as goal

pub loop-w-init : goal.loop-w-init
loop-w-init c = search (rules, gathering-none)

pub after_words-next-requires : goal.after_words-next-requires
after_words-next-requires c = search gather-behind

pub shift_of-by-requires : goal.shift_of-by-requires
shift_of-by-requires c = search gather-before

pub shift_range-at-requires : goal.shift_range-at-requires
shift_range-at-requires c = search gather-can

pub pass-b-requires : goal.pass-b-requires
pass-b-requires c = search gather-before

pub loop-w-preserved : goal.loop-w-preserved
loop-w-preserved c = (search gather-more, search rules)

pub returns : goal.returns
returns c = search gathering-end
