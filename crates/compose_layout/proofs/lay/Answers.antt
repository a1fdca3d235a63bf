use Rattle.compose_layout.proofs.LayLaws.{inputs-can, inputs_wrong, latches-can, latches_wrong, places_fit, laid_out}
use Rattle.compose_layout.proofs.lay.Goals as goal

pub gather_origins-requires : goal.gather_origins-requires
gather_origins-requires c = inputs-can (c.lay_lists-lists.ensures _) c.requires

-- 16 because of an input
pub returns-in_err-latch_origins : goal.returns-in_err-latch_origins
returns-in_err-latch_origins c = rw c.from_residual.ensures (inputs_wrong (c.lay_lists-lists.ensures _) _ _ c.gather_origins.ensures c.in_err-latch_origins.was)

pub gather_origins-requires-2 : goal.gather_origins-requires-2
gather_origins-requires-2 c = latches-can (c.lay_lists-lists.ensures _) _ _ c.gather_origins.ensures c.in_ok-latch_origins.was c.requires

-- 16 because of a latch
pub returns-in_err-assigned : goal.returns-in_err-assigned
returns-in_err-assigned c =
    rw c.from_residual-in_err-assigned.ensures (latches_wrong (c.lay_lists-lists.ensures _) _ _ c.gather_origins.ensures c.in_ok-latch_origins.was
    _ _ c.gather_origins-2.ensures c.in_err-assigned.was)

pub place_regions-requires : goal.place_regions-requires
place_regions-requires c =
    places_fit (c.lay_lists-lists.ensures _) _ _ c.gather_origins.ensures c.in_ok-latch_origins.was
    _ _ c.gather_origins-2.ensures c.in_ok-assigned.was c.requires

pub returns : goal.returns
returns c =
    laid_out (c.lay_lists-lists.ensures _) _ _ c.gather_origins.ensures c.in_ok-latch_origins.was
    _ _ c.gather_origins-2.ensures c.in_ok-assigned.was c.place_regions.ensures
