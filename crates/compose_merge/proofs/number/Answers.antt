use Rattle.compose_merge.proofs.PartsLaws.{parts_inputs, parts_latches, parts_numbered}
use Rattle.compose_merge.proofs.number.Goals as goal

pub number_leaves-first_latch-requires : goal.number_leaves-first_latch-requires
number_leaves-first_latch-requires c =
    parts_inputs _ _ _ _ c.requires _ _ _ _ _ _ _ _ c.split_at_mut-front.ensures.front c.split_at_mut-front.ensures.back c.split_at_mut-lists.ensures.front c.split_at_mut-lists.ensures.back
    c.split_at_mut-inputs.ensures.front c.split_at_mut-inputs.ensures.back c.split_at_mut-of_inputs.ensures.front c.split_at_mut-of_inputs.ensures.back

pub number_leaves-next-requires : goal.number_leaves-next-requires
number_leaves-next-requires c =
    parts_latches _ _ _ _ c.requires _ _ _ _ _ _ _ _ c.split_at_mut-front.ensures.front c.split_at_mut-front.ensures.back c.split_at_mut-lists.ensures.front c.split_at_mut-lists.ensures.back
    c.split_at_mut-inputs.ensures.front c.split_at_mut-inputs.ensures.back c.split_at_mut-of_inputs.ensures.front c.split_at_mut-of_inputs.ensures.back
    _ _ _ c.number_leaves-first_latch.ensures

pub returns : goal.returns
returns c =
    parts_numbered _ _ _ _ c.requires _ _ _ _ _ _ _ _ c.split_at_mut-front.ensures.front c.split_at_mut-front.ensures.back c.split_at_mut-lists.ensures.front c.split_at_mut-lists.ensures.back
    c.split_at_mut-inputs.ensures.front c.split_at_mut-inputs.ensures.back c.split_at_mut-of_inputs.ensures.front c.split_at_mut-of_inputs.ensures.back
    _ _ _ c.number_leaves-first_latch.ensures _ _ _ c.number_leaves-next.ensures c.number_leaves-first_latch.auto.assigned c.number_leaves-first_latch.auto.numbers
    c.number_leaves-next.auto.assigned c.number_leaves-next.auto.numbers
