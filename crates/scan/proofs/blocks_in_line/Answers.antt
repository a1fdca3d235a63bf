use Rattle.std.proofs.Common.{rules}
use Rattle.std.specs.Slice.Iter.{chunks_rest}
use Rattle.scan.specs.Spans.{in_line}
use Rattle.scan.proofs.BlockLaws.{span-passed, passed-block}
use Rattle.scan.proofs.blocks_in_line.Goals as goal

pub loop-block-preserved : goal.loop-block-preserved
loop-block-preserved c = (
  span-passed in_line (chunks_rest c.loop-block.block-iterator) c.in-Some.block.now (chunks_rest c.next.new.self) (search rules) _ c.block_passes.ensures c.if-not-block_passes.false _ _ c.loop-block.invariant.0,
  search (rules, passed-block),
)
