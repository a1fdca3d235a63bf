use Rattle.std.proofs.Common.{refl}
use native.Mathlib.Omega.{arith}
use Rattle.compose_gates.proofs.DefineLaws.{defining-none, defining-done, turn_above, turn_left, turn_right, turn-twice, turn-room, turn_differs, turn-agrees}
use Rattle.compose_gates.proofs.define_latches.Goals as goal

pub loop-j-init : goal.loop-j-init
loop-j-init c = search defining-none

pub overflow_sub-slot : goal.overflow_sub-slot
overflow_sub-slot c = search turn_above

pub overflow_mul-slot : goal.overflow_mul-slot
overflow_mul-slot c = omega (arith, turn-twice _ _ _ _ _ c.requires _ _ _ c.loop-j.invariant c.loop-j-test.true _ refl)

pub translate-next-requires : goal.translate-next-requires
translate-next-requires c = search turn_left

pub translate-reset-requires : goal.translate-reset-requires
translate-reset-requires c = search turn_right

pub define_latch-requires : goal.define_latch-requires
define_latch-requires c = search turn-room

pub loop-j-preserved : goal.loop-j-preserved
loop-j-preserved c = search turn-agrees

pub returns-then-not-define_latch : goal.returns-then-not-define_latch
returns-then-not-define_latch c = search turn_differs

pub returns : goal.returns
returns c = search defining-done
