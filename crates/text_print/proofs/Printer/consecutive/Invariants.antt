use Prim.Native.Nat.{◌+◌, ◌-◌}
use Rattle.text_decimal.specs.Printed.{text_of}
use Rattle.text_print.specs.Inner.Lines.{literal_lines, literals_from}
use Rattle.text_print.proofs.PrintsLaws.{Printing}
use Rattle.text_print.proofs.Printer.consecutive.Given as goal

abbrev pub invariant-loop-i : goal.invariant-loop-i
invariant-loop-i l = Printing l.initial.self (text_of (literal_lines (literals_from l.first l.count))) l.self (text_of (literal_lines (literals_from (l.first + l.i) (l.count - l.i))))
