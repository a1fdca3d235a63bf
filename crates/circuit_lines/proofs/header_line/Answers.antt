use mathlib.Core.Path.{sym, ◌∙◌}
use Rattle.circuit_lines.proofs.HeaderLaws.{no_field, no_word, after-word}
use Rattle.circuit_lines.proofs.header_line.Goals as goal

pub returns-in_err-word : goal.returns-in_err-word
returns-in_err-word c = rw c.from_residual.ensures (search (no_field, c.in_err-word.ensures))

pub returns-then-not-is_header_word : goal.returns-then-not-is_header_word
returns-then-not-is_header_word c = search (no_word, c.in_ok-word.ensures, sym c.is_header_word.ensures ∙ c.if-not-is_header_word.true)

pub returns : goal.returns
returns c = search (after-word, c.in_ok-word.ensures, sym c.is_header_word.ensures ∙ c.if-not-is_header_word.false)
