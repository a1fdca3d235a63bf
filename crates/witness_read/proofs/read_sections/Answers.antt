use Rattle.std.proofs.Common.{◌∙◌}
use Rattle.aiger.proofs.AnsweredLaws.{answered-err}
use Rattle.witness_read.proofs.ReadLaws.{sections_bad, symbols-refused, comments-refused, order-refused, sections_read}
use Rattle.witness_read.proofs.read_sections.Goals as goal

pub returns-in_default : goal.returns-in_default
returns-in_default c = search (sections_bad, c.in_default.ensures)

pub returns-in_err-comments : goal.returns-in_err-comments
returns-in_err-comments c = answered-err _ _ c.from_residual.ensures.1 ∙ search (symbols-refused, c.in-Some.ensures, c.in_err-comments.ensures)

pub returns-then-not-plain_comments : goal.returns-then-not-plain_comments
returns-then-not-plain_comments c = search (comments-refused, c.in-Some.ensures, c.in_ok-comments.ensures)

pub returns-then-not-checked : goal.returns-then-not-checked
returns-then-not-checked c = search (order-refused, c.in-Some.ensures, c.in_ok-comments.ensures)

pub returns : goal.returns
returns c = search (sections_read, c.in-Some.ensures, c.in_ok-comments.ensures)
