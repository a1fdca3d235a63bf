use native.Mathlib.Omega.{arith}
use lib.ListN.{length-set}
use Rattle.model.proofs.WordsLaws.{latches-more}
use Rattle.model.proofs.words.latches.Goals as goal

pub loop-i-preserved : goal.loop-i-preserved
loop-i-preserved c = (simp length-set c.loop-i.invariant.0, latches-more c.args.words.now c.loop-i.latches c.loop-i.i c.loop-i.invariant.1 (omega arith) c.loop-i.invariant.0 c.latch.result c.latch.ensures)
