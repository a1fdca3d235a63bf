use lib.ListN.{drop}
use Rattle.text_print.specs.Inner.Lines.{fields_text}
use Rattle.text_print.proofs.PrintsLaws.{Printing}
use Rattle.text_print.proofs.Printer.fields.Given as goal

abbrev pub invariant-loop-n : goal.invariant-loop-n
invariant-loop-n g l = Printing l.initial.self (fields_text g.T.Number.value l.list) l.self (fields_text g.T.Number.value (drop l.n-index l.list))
