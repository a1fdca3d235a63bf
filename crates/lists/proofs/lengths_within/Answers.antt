use Rattle.lists.proofs.PairLaws.{lengths-stop, lengths-more, lengths-end}
use Rattle.lists.proofs.lengths_within.Goals as goal

pub returns-then-left-n : goal.returns-then-left-n
returns-then-left-n c = search lengths-stop

pub loop-i-preserved : goal.loop-i-preserved
loop-i-preserved c = search lengths-more

pub returns : goal.returns
returns c = search lengths-end
