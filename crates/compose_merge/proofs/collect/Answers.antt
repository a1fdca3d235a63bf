use Rattle.compose_merge.proofs.CollectLaws.{bads-can, constraints-can, collected}
use Rattle.compose_merge.proofs.collect.Goals as goal

pub add_literals-requires : goal.add_literals-requires
add_literals-requires c =
    bads-can _ _ c.requires _ _ _ _ c.split_at_mut-front.ensures.front c.split_at_mut-front.ensures.back c.split_at_mut-bads.ensures.front c.split_at_mut-bads.ensures.back

pub add_literals-requires-2 : goal.add_literals-requires-2
add_literals-requires-2 c =
    constraints-can _ _ c.requires _ _ _ _ c.split_at_mut-front.ensures.front c.split_at_mut-front.ensures.back c.split_at_mut-bads.ensures.front c.split_at_mut-bads.ensures.back

pub returns : goal.returns
returns c =
    collected _ _ c.requires _ _ _ _ c.split_at_mut-front.ensures.front c.split_at_mut-front.ensures.back c.split_at_mut-bads.ensures.front c.split_at_mut-bads.ensures.back
    _ _ _ _ c.add_literals.ensures c.add_literals-2.ensures c.add_literals.auto.set c.add_literals-2.auto.set
