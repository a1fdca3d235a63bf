use Rattle.compose_gather.proofs.BlockLaws.{LoadingAll}
use lib.ListN.{length}
use mathlib.Core.Path.{◌≡◌}
use Rattle.compose_gather.proofs.load_all.Given as goal

abbrev pub invariant-loop-w : goal.invariant-loop-w
invariant-loop-w l = LoadingAll l.witnesses.texts.bytes.now l.witnesses.texts.pairs.now l.work l.at l.w × (length l.work ≡ length l.initial.work)
