use Rattle.witness_read.proofs.ReadLaws.{text_refused, header_refused, text_read_lem}
use Rattle.witness_read.proofs.parse_aag.Goals as goal

pub returns-then-not-good_text : goal.returns-then-not-good_text
returns-then-not-good_text c = search text_refused

pub returns-in_default : goal.returns-in_default
returns-in_default c = search (header_refused, c.in_default.ensures)

pub returns : goal.returns
returns c = search (text_read_lem, c.in-Some.ensures)
