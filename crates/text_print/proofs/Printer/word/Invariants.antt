use Prim.Native.Nat.{◌+◌, ◌*◌}
use Rattle.text_print.specs.Inner.Elements.{elements_in}
use Rattle.text_print.proofs.WordLaws.{lines_of, InWord}
use Rattle.text_print.proofs.Printer.word.Given as goal

abbrev pub invariant-loop-rest : goal.invariant-loop-rest
invariant-loop-rest l = InWord l.words (64 * l.j + 64) l.initial.self (lines_of (elements_in l.words l.j)) l.self l.k l.rest

abbrev pub decreases-loop-rest : goal.decreases-loop-rest
decreases-loop-rest l = l.rest
