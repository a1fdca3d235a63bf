use Rattle.std.proofs.Common.{rules}
use Rattle.lists.proofs.RestLaws.{copy_more, copy_end}
use Rattle.text_print.proofs.copy.Goals as goal

pub loop-i-preserved : goal.loop-i-preserved
loop-i-preserved c = search (rules, copy_more)

pub returns : goal.returns
returns c = search (rules, copy_end)
