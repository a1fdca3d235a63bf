use Rattle.compose.proofs.TopLaws.{model-refused, model-some, model-composed}
use Rattle.compose.proofs.compose_texts.Goals as goal

pub returns-in_err-model_counts : goal.returns-in_err-model_counts
returns-in_err-model_counts c = model-refused _ _ _ _ _ _ c.in_err-model_counts.ensures _ c.from_residual.ensures.1

pub compose_witnesses-requires : goal.compose_witnesses-requires
compose_witnesses-requires c = search (model-some, c.in_ok-model_counts.ensures)

pub returns : goal.returns
returns c = search (model-composed, c.in_ok-model_counts.ensures)
