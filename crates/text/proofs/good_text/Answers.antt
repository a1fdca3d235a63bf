use Rattle.text.proofs.TextLaws.{text_long, text_bytes, text_end}
use Rattle.text.proofs.good_text.Goals as goal

pub returns-then-s-gt16777216 : goal.returns-then-s-gt16777216
returns-then-s-gt16777216 c = search text_long

pub returns-then-good_bytes : goal.returns-then-good_bytes
returns-then-good_bytes c = search text_end

pub returns-else-good_bytes : goal.returns-else-good_bytes
returns-else-good_bytes c = search text_bytes
