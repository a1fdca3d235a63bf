use Rattle.compose_origins.proofs.MappingLaws.{position_shared, position_private}
use Rattle.compose_origins.proofs.by_position.Goals as goal

pub returns-then-k-model_leaves : goal.returns-then-k-model_leaves
returns-then-k-model_leaves c = search position_shared

pub returns : goal.returns
returns c = search position_private
