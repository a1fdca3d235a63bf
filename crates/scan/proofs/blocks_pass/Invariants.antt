use Rattle.std.proofs.Common.{◌≡◌}
use Rattle.std.specs.Slice.Iter.{chunks_rest}
use Rattle.lists.specs.Tests.{all}
use Rattle.scan.proofs.blocks_pass.Given as goal

abbrev pub invariant-loop-block : goal.invariant-loop-block
invariant-loop-block g l = all g.R.Ranked.passes l.s ≡ all g.R.Ranked.passes (chunks_rest l.block-iterator)
