use Prim.Native.Nat.{◌+◌, ◌*◌, ◌<◌}
use native.Mathlib.Omega.{arith}
use Rattle.model_step.proofs.StepLaws.{packing-none, packing-inside, packing-room, packing-more, packing-done}
use Rattle.model_step.proofs.word.Goals as goal
use Rattle.model_step.proofs.word.Goals.{After-value_of}

pub loop-k-init : goal.loop-k-init
loop-k-init c = search packing-none

pub value_of-requires : goal.value_of-requires
value_of-requires c = packing-inside _ _ c.loop-k.k _ c.loop-k.invariant (omega arith) (omega arith) c.requires.1

room : (c : After-value_of) → c.value_of.result + 2 * c.loop-k.word < 18446744073709551616
room c = packing-room _ _ c.loop-k.k _ c.loop-k.invariant (omega arith) (omega arith) c.requires.0 _ _ c.value_of.ensures

pub overflow_mul-word : goal.overflow_mul-word
overflow_mul-word c = omega (arith, room (goal.at.overflow_mul-word c).After-value_of)

pub overflow_add-word : goal.overflow_add-word
overflow_add-word c = omega (arith, room (goal.at.overflow_add-word c).After-value_of)

pub loop-k-preserved : goal.loop-k-preserved
loop-k-preserved c = packing-more _ _ c.loop-k.k _ c.loop-k.invariant (omega arith) (omega arith) _ c.value_of.ensures

pub returns : goal.returns
returns c = packing-done _ _ _ _ c.loop-k.invariant (omega arith)
