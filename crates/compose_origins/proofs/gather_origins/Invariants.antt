use Rattle.compose_origins.proofs.AllLaws.{Mapping}
use lib.ListN.{length}
use mathlib.Core.Path.{◌≡◌}
use Rattle.compose_origins.proofs.gather_origins.Given as goal

abbrev pub invariant-loop-w : goal.invariant-loop-w
invariant-loop-w l = Mapping l.model_leaves l.leaves l.witnesses.texts.bytes.now l.witnesses.texts.pairs.now l.initial.work l.work l.to l.from l.at l.w × (length l.work ≡ length l.initial.work)
