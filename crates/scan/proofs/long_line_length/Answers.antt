use native.Mathlib.Omega.{arith}
use Rattle.scan.specs.Spans.{in_line}
use Rattle.scan.proofs.SpanLaws.{span_le}
use Rattle.scan.proofs.long_line_length.Goals as goal

pub slice_bounds-passing-count : goal.slice_bounds-passing-count
slice_bounds-passing-count c = omega (arith, c.blocks_in_line-passed.ensures, span_le in_line c.args.s.now)

pub slice_bounds-passing-start : goal.slice_bounds-passing-start
slice_bounds-passing-start c = omega (arith, c.blocks_in_line-passed.ensures, span_le in_line c.args.s.now)

pub returns-clause-within : goal.returns-clause-within
returns-clause-within c = omega (arith, c.blocks_in_line-passed.ensures, c.passing.ensures.within, span_le in_line c.args.s.now)
