use Rattle.scan.proofs.BlockLaws.{Highest}
use Rattle.scan.proofs.block_passes.Given as goal

abbrev pub invariant-loop-b : goal.invariant-loop-b
invariant-loop-b g l = Highest g.R.Ranked.passes 127 l.block l.most l.b-index
