use Rattle.compose_merge.proofs.ClearLaws.{regions-cleared}
use Rattle.compose_merge.proofs.clear_regions.Goals as goal

pub returns : goal.returns
returns c = regions-cleared _ _ _ _ _ _ c.requires c.regions_clear.ensures c.regions_clear-2.ensures c.regions_clear-3.ensures
