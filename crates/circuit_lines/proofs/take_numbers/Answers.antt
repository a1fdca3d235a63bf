use mathlib.Core.Path.{sym, ◌∙◌}
use Rattle.circuit_lines.proofs.NumbersLaws.{numbering-more, numbering_unreadable, numbering_missing, numbering-over, numbering-done}
use Rattle.circuit_lines.proofs.take_numbers.Goals as goal

pub loop-i-preserved : goal.loop-i-preserved
loop-i-preserved c = search (numbering-more, c.in-Got.ensures)

pub returns-in-Unreadable : goal.returns-in-Unreadable
returns-in-Unreadable c = search (numbering_unreadable, c.in-Unreadable.ensures)

pub returns-in-Missing : goal.returns-in-Missing
returns-in-Missing c = search (numbering_missing, c.in-Missing.ensures)

pub returns-then-is_some : goal.returns-then-is_some
returns-then-is_some c = search (numbering-over, sym c.is_some.ensures ∙ c.if-is_some.true)

pub returns : goal.returns
returns c = search (numbering-done, c.loop-i.auto, sym c.is_some.ensures ∙ c.if-is_some.false)
