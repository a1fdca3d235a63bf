use Rattle.witness_read.proofs.TailLaws.{symbol-none, symbol-comments, symbol_bad, symbol-more}
use Rattle.witness_read.proofs.tail.next_symbol.Goals as goal

pub returns-in_default : goal.returns-in_default
returns-in_default c = search (symbol-none, c.in_default.ensures)

pub returns-then-ends_symbols : goal.returns-then-ends_symbols
returns-then-ends_symbols c = search (symbol-comments, c.in-Some.ensures)

pub returns-in_default-symbol_line : goal.returns-in_default-symbol_line
returns-in_default-symbol_line c = search (symbol_bad, c.in-Some.ensures, c.in_default-symbol_line.ensures)

pub returns : goal.returns
returns c = search (symbol-more, c.in-Some.ensures, c.in-Some-symbol_line.ensures)
