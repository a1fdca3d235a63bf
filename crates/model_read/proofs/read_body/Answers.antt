use Rattle.model_read.proofs.ReadLaws.{body-counts, body-words, body-work, body-readable, body-model}
use Rattle.model_read.proofs.read_body.Goals as goal

pub returns-then-not-hold : goal.returns-then-not-hold
returns-then-not-hold c = search body-counts

pub returns-then-gates-counts : goal.returns-then-gates-counts
returns-then-gates-counts c = search body-words

pub returns-then-work-counts : goal.returns-then-work-counts
returns-then-work-counts c = search body-work

pub read_model-requires : goal.read_model-requires
read_model-requires c = search body-readable

pub returns : goal.returns
returns c = search body-model
