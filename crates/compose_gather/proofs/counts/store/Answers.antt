use Rattle.compose_gather.proofs.CountLaws.{nine_stored}
use Rattle.compose_gather.proofs.counts.store.Goals as goal

pub returns : goal.returns
returns c = nine_stored _ _ _ _ c.requires c.copy_from_slice.ensures.after
