use Prim.Native.Nat.{◌+◌}
use mathlib.Core.Path.{◌≡◌}
use Rattle.std.specs.Slice.Iter.{chunks_rest}
use lib.ListN.{drop}
use Rattle.scan.specs.Spans.{span, in_line}
use Rattle.scan.proofs.blocks_in_line.Given as goal

abbrev pub invariant-loop-block : goal.invariant-loop-block
invariant-loop-block l = (span in_line l.s ≡ l.passed + span in_line (chunks_rest l.block-iterator)) × (drop l.passed l.s ≡ chunks_rest l.block-iterator)
