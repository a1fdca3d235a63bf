use Rattle.compose_origins.proofs.WitnessLaws.{witness_test, witness-can, witness_wrong, witness-mapped}
use Rattle.compose_origins.proofs.witness_origins.Goals as goal

pub maps_by_name-named-requires : goal.maps_by_name-named-requires
maps_by_name-named-requires c = search witness_test

pub store_origins-requires : goal.store_origins-requires
store_origins-requires c = witness-can _ _ _ _ _ _ _ _ c.requires _ _ c.names_at-names.ensures c.count-count.ensures _ _ c.split_at_mut-words.ensures.front c.split_at_mut-words.ensures.back

pub returns-in_err-store_origins : goal.returns-in_err-store_origins
returns-in_err-store_origins c =
    rw c.from_residual.ensures
    (witness_wrong _ _ _ _ _ _ _ _ c.requires _ _ c.names_at-names.ensures c.count-count.ensures _ _ c.split_at_mut-words.ensures.front c.split_at_mut-words.ensures.back
    _ c.maps_by_name-named.ensures c.store_origins.new.origins c.in_err-store_origins.ensures _)

pub returns : goal.returns
returns c =
    witness-mapped _ _ _ _ _ _ _ _ c.requires _ _ c.names_at-names.ensures c.count-count.ensures _ _ c.split_at_mut-words.ensures.front c.split_at_mut-words.ensures.back
    _ c.maps_by_name-named.ensures _ _ c.in_ok-store_origins.ensures
