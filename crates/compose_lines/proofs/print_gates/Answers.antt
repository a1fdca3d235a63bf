use native.Mathlib.Omega.{arith}
use Rattle.compose_lines.proofs.GateLaws.{walk_more, walk_end}
use Rattle.compose_lines.proofs.print_gates.Goals as goal

pub loop-k-preserved : goal.loop-k-preserved
loop-k-preserved c = walk_more _ _ _ _ _ _ _ c.loop-k.invariant _ (omega (arith, c.loop-k-test)) c.three.ensures

pub returns : goal.returns
returns c = search walk_end
