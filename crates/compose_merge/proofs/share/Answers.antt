use Rattle.compose_merge.proofs.LentLaws.{lent_sharable, lent_shared}
use Rattle.compose_merge.proofs.share.Goals as goal

pub share_gates-requires : goal.share_gates-requires
share_gates-requires c =
    lent_sharable _ _ _ _ c.requires _ _ _ _ c.split_at_mut-front.ensures.front c.split_at_mut-front.ensures.back c.split_at_mut-lists.ensures.front c.split_at_mut-lists.ensures.back

pub returns : goal.returns
returns c =
    lent_shared _ _ _ _ c.requires _ _ _ _ c.split_at_mut-front.ensures.front c.split_at_mut-front.ensures.back c.split_at_mut-lists.ensures.front c.split_at_mut-lists.ensures.back
    _ _ _ c.share_gates.ensures c.share_gates.auto.vars c.share_gates.auto.table
