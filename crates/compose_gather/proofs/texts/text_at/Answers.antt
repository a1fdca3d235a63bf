use Rattle.compose_gather.proofs.TextLaws.{text_ends, text_is_lem}
use Rattle.compose_gather.proofs.texts.text_at.Goals as goal

pub piece-requires : goal.piece-requires
piece-requires c = search text_ends

pub returns : goal.returns
returns c = search text_is_lem
