use native.Mathlib.Omega.{arith}
use Rattle.obligation_gates.proofs.SourceLaws.{source-next, source-end}
use Rattle.obligation_gates.proofs.append_sources.Goals as goal

pub loop-i-preserved : goal.loop-i-preserved
loop-i-preserved c = source-next c.args.currents.now c.args.source c.loop-i.i _ (omega arith) c.source_literal.ensures _ _ c.loop-i.invariant _ c.push_single.ensures

pub returns : goal.returns
returns c = source-end c.args.currents.now c.args.source c.loop-i.i _ _ (omega arith) c.loop-i.invariant
