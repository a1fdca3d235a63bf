use Rattle.compose_gather.proofs.CheckLaws.{Checking}
use Rattle.std.proofs.Common.{◌≡◌, length}
use Rattle.compose_gather.proofs.check_all.Given as goal

abbrev pub invariant-loop-w : goal.invariant-loop-w
invariant-loop-w l = Checking l.texts.bytes.now l.texts.pairs.now l.fn.room l.counts l.totals l.w × (length l.counts ≡ length l.initial.counts)
