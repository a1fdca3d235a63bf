use Prim.Native.Nat.{◌+◌, ◌*◌}
use lib.ListN.{drop}
use Rattle.text_decimal.specs.Printed.{text_of}
use Rattle.text_print.specs.Inner.Lines.{gate_lines}
use Rattle.text_print.proofs.PrintsLaws.{Printing}
use Rattle.text_print.proofs.Printer.pairs.Given as goal

abbrev pub invariant-loop-i : goal.invariant-loop-i
invariant-loop-i l = Printing l.initial.self (text_of (gate_lines l.first l.words)) l.self (text_of (gate_lines (l.first + l.i) (drop (2 * l.i) l.words)))
