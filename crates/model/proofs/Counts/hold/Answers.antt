use mathlib.Core.Path.{sym}
use native.Mathlib.Omega.{arith}
use Rattle.model.proofs.CountLaws.{counted_fails, counted_sum}
use Rattle.model.proofs.Counts.hold.Goals as goal

pub returns-then-self-gt64 : goal.returns-then-self-gt64
returns-then-self-gt64 c = sym (counted_fails _ (λ k. omega (arith, k.inputs, k.some, k.latches, k.outputs)))

pub returns-then-self-eq0-2 : goal.returns-then-self-eq0-2
returns-then-self-eq0-2 c = sym (counted_fails _ (λ k. omega (arith, k.sum, k.least, k.most)))

pub returns : goal.returns
returns c = counted_sum _ (omega arith) (omega arith) (omega arith) (omega arith) (omega arith) (omega arith)
