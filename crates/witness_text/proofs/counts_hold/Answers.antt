use mathlib.Core.Path.{sym}
use native.Mathlib.Omega.{arith}
use Rattle.witness_text.proofs.CountLaws.{counted_fails, counted-rest}
use Rattle.witness_text.proofs.counts_hold.Goals as goal

pub returns-then-counts-gt2000000 : goal.returns-then-counts-gt2000000
returns-then-counts-gt2000000 c = sym (counted_fails _ (λ k. omega (arith, k.most)))

pub returns-then-counts : goal.returns-then-counts
returns-then-counts c = sym (counted_fails _ (λ k. omega (arith, k.sum)))

pub returns-then-after_inputs-counts : goal.returns-then-after_inputs-counts
returns-then-after_inputs-counts c = sym (counted_fails _ (λ k. omega (arith, k.sum)))

pub returns : goal.returns
returns c = counted-rest _ (omega arith) (omega arith) (omega arith)
