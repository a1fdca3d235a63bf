use Rattle.compose.proofs.CallLaws.{safe-none, safe-stop, safe-more, safe-end}
use Rattle.compose.proofs.all_safe.Goals as goal

pub loop-w-init : goal.loop-w-init
loop-w-init c = search safe-none

pub returns-then-n-eq0-2 : goal.returns-then-n-eq0-2
returns-then-n-eq0-2 c = search safe-stop

pub loop-w-preserved : goal.loop-w-preserved
loop-w-preserved c = search (safe-more, c.else-n-eq0.either)

pub returns : goal.returns
returns c = search safe-end
