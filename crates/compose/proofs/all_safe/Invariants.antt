use Rattle.compose.proofs.CallLaws.{Safe}
use Rattle.compose.proofs.all_safe.Given as goal

abbrev pub invariant-loop-w : goal.invariant-loop-w
invariant-loop-w l = Safe l.witnesses.texts.bytes.now l.witnesses.texts.pairs.now l.w
