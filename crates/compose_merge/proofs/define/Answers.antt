use Rattle.compose_merge.proofs.LentLaws.{lent_can, lent_defined}
use Rattle.compose_merge.proofs.define.Goals as goal

pub define_latches-requires : goal.define_latches-requires
define_latches-requires c = lent_can _ _ _ _ c.requires _ _ c.split_at_mut-front.ensures.front c.split_at_mut-front.ensures.back

pub returns : goal.returns
returns c =
    lent_defined _ _ _ _ c.requires _ _ c.split_at_mut-front.ensures.front c.split_at_mut-front.ensures.back _ _ c.define_latches.ensures c.define_latches.auto.definitions
