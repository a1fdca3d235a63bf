use borrow.Author.Rules.{rules}
use Rattle.compose_gather.proofs.ShiftLaws.{shifting-none, shifting-small, shifting-more, shifting-end}
use Rattle.compose_gather.proofs.literals.shift_words.Goals as goal

pub loop-i-init : goal.loop-i-init
loop-i-init c = search (rules, shifting-none)

pub shift_literal-requires : goal.shift_literal-requires
shift_literal-requires c = search shifting-small

pub loop-i-preserved : goal.loop-i-preserved
loop-i-preserved c = search shifting-more

pub returns : goal.returns
returns c = search shifting-end
