use native.Mathlib.Omega.{arith}
use Rattle.compose_merge.proofs.BaseLaws.{step-some, step-goes}
use Rattle.compose_merge.proofs.ClearLaws.{clear-can, clear_step}
use Rattle.compose_merge.proofs.LatchLaws.{numbers-can, numbers-step}
use Rattle.compose_merge.proofs.GateLaws.{gates-can, gates_many, gates-step}
use Rattle.compose_merge.proofs.merge.Goals as goal

pub clear_regions-requires : goal.clear_regions-requires
clear_regions-requires c = clear-can c.requires

pub number-first_latch-requires : goal.number-first_latch-requires
number-first_latch-requires c = numbers-can _ _ _ _ (step-some (clear_step c.clear_regions.auto.work c.clear_regions.ensures) c.requires)

pub overflow_sub-next : goal.overflow_sub-next
overflow_sub-next c =
    let cleared = step-some (clear_step c.clear_regions.auto.work c.clear_regions.ensures) c.requires in
    let leaves = step-some (numbers-step _ _ _ _ c.number-first_latch.auto.work c.number-first_latch.ensures) cleared in
    omega (arith, leaves.holds.next)

pub share-requires : goal.share-requires
share-requires c =
    let cleared = step-some (clear_step c.clear_regions.auto.work c.clear_regions.ensures) c.requires in
    let leaves = step-some (numbers-step _ _ _ _ c.number-first_latch.auto.work c.number-first_latch.ensures) cleared in
    gates-can _ _ _ _ _ leaves

pub shape_of-work-in_default : goal.shape_of-work-in_default
shape_of-work-in_default c = omega (arith, c.share.auto.work, c.number-first_latch.auto.work, c.clear_regions.auto.work)

-- 17
pub returns-in_default : goal.returns-in_default
returns-in_default c =
    step-goes (clear_step c.clear_regions.auto.work c.clear_regions.ensures)
    (step-goes (numbers-step _ _ _ _ c.number-first_latch.auto.work c.number-first_latch.ensures)
    (gates_many _ _ _ _ _ c.share.ensures c.in_default.is _))

pub define_and_collect-requires : goal.define_and_collect-requires
define_and_collect-requires c =
    let cleared = step-some (clear_step c.clear_regions.auto.work c.clear_regions.ensures) c.requires in
    let leaves = step-some (numbers-step _ _ _ _ c.number-first_latch.auto.work c.number-first_latch.ensures) cleared in
    step-some (gates-step _ _ _ _ _ c.share.ensures c.share.auto.work c.in-Some.is) leaves

pub shape_of-work : goal.shape_of-work
shape_of-work c = omega (arith, c.define_and_collect.auto.work, c.share.auto.work, c.number-first_latch.auto.work, c.clear_regions.auto.work)

pub returns : goal.returns
returns c =
    step-goes (clear_step c.clear_regions.auto.work c.clear_regions.ensures)
    (step-goes (numbers-step _ _ _ _ c.number-first_latch.auto.work c.number-first_latch.ensures)
    (step-goes (gates-step _ _ _ _ _ c.share.ensures c.share.auto.work c.in-Some.is)
    c.define_and_collect.ensures))
