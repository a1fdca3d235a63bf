use Rattle.text_print.specs.Inner.Elements.{elements}
use Rattle.text_print.proofs.PrintsLaws.{Printing}
use Rattle.text_print.proofs.WordLaws.{lines_of, elements_from}
use Rattle.text_print.proofs.Printer.set.Given as goal

abbrev pub invariant-loop-j : goal.invariant-loop-j
invariant-loop-j l = Printing l.initial.self (lines_of (elements l.words)) l.self (lines_of (elements_from l.words l.j))
