use native.Mathlib.Omega.{arith}
use Rattle.compose_gates.proofs.TurnLaws.{sharing-none, sharing-done, turn_left, turn_right, turn-findable, turn-low, turn_many, turn_more}
use Rattle.compose_gates.proofs.share_gates.Goals as goal

pub loop-i-init : goal.loop-i-init
loop-i-init c = search sharing-none

pub gate_key-key-requires : goal.gate_key-key-requires
gate_key-key-requires c = (search turn_left, search turn_right)

pub find_or_add-k-requires : goal.find_or_add-k-requires
find_or_add-k-requires c = search turn-findable

pub overflow_add-k : goal.overflow_add-k
overflow_add-k c =
    let low = turn-low _ _ _ _ _ c.requires _ _ _ _ c.loop-i.invariant c.loop-i-test.true _ c.gate_key-key.ensures _ _ c.find_or_add-k.ensures in
    omega (arith, low, c.loop-i.invariant.few, c.loop-i-test.true)

pub overflow_add-leaves : goal.overflow_add-leaves
overflow_add-leaves c =
    let low = turn-low _ _ _ _ _ c.requires _ _ _ _ c.loop-i.invariant c.loop-i-test.true _ c.gate_key-key.ensures _ _ c.find_or_add-k.ensures in
    omega (arith, low, c.max-shared.ensures, c.requires.few, c.loop-i.invariant.few, c.loop-i-test.true)

pub returns-then-leaves-shared-gt2000000 : goal.returns-then-leaves-shared-gt2000000
returns-then-leaves-shared-gt2000000 c = search turn_many

pub loop-i-preserved : goal.loop-i-preserved
loop-i-preserved c = search turn_more

pub returns : goal.returns
returns c = search sharing-done
