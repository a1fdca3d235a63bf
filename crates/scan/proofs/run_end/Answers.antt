use mathlib.Core.Path.{refl}
use Rattle.std.proofs.Common.{rules}
use Rattle.scan.proofs.SpanLaws.{between_in, between-low, between_high, span_in, span_out, span-end}
use Rattle.scan.proofs.run_end.Goals as goal

pub loop-i-init : goal.loop-i-init
loop-i-init c = refl

pub returns-then-s-i : goal.returns-then-s-i
returns-then-s-i c = search (rules, span_out, between-low)

pub returns-then-high-s : goal.returns-then-high-s
returns-then-high-s c = search (rules, span_out, between_high)

pub loop-i-preserved : goal.loop-i-preserved
loop-i-preserved c = search (rules, span_in, between_in)

pub returns : goal.returns
returns c = search (rules, span-end)
