use Rattle.lists.proofs.ZeroLaws.{zeros_own}
use Rattle.model_read.proofs.ReadLaws.{text_refused, header_bad, header_read}
use Rattle.model_read.proofs.parse_ascii_aiger_transition.Goals as goal

pub returns-then-not-good_text : goal.returns-then-not-good_text
returns-then-not-good_text c = search text_refused

pub returns-in_default : goal.returns-in_default
returns-in_default c = search header_bad

pub read_body-requires : goal.read_body-requires
read_body-requires c = search zeros_own

pub returns : goal.returns
returns c = search header_read
