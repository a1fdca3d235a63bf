use Rattle.model.proofs.MarkingLaws.{adds-more, adds-stop}
use Rattle.model.proofs.define_all.Goals as goal

pub returns-then-not-define : goal.returns-then-not-define
returns-then-not-define c = search adds-stop

pub loop-literal-preserved : goal.loop-literal-preserved
loop-literal-preserved c = search adds-more
