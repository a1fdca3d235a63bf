use Rattle.model_read.proofs.GateLaws.{next-after, next_lost}
use Rattle.model_read.proofs.define_next.Goals as goal

pub returns-then-fine : goal.returns-then-fine
returns-then-fine c = search next-after

pub returns : goal.returns
returns c = search next_lost
