use native.Mathlib.Omega.{arith}
use Rattle.text_print.proofs.WordLaws.{word_none, word_eight, word_one, word_print, word-done}
use borrow.Author.Rules.{rules}
use Rattle.text_print.proofs.Printer.word.Goals as goal

pub loop-rest-init : goal.loop-rest-init
loop-rest-init c = word_none _ _ _ (search rules)

pub loop-rest-preserved-then-rest-eq0 : goal.loop-rest-preserved-then-rest-eq0
loop-rest-preserved-then-rest-eq0 c = word_eight _ _ _ _ _ _ _ c.loop-rest.invariant (omega arith) (omega arith)

pub loop-rest-preserved-then-rest-eq0-2 : goal.loop-rest-preserved-then-rest-eq0-2
loop-rest-preserved-then-rest-eq0-2 c = word_one _ _ _ _ _ _ _ c.loop-rest.invariant (omega arith) (omega arith)

pub loop-rest-preserved : goal.loop-rest-preserved
loop-rest-preserved c = word_print _ _ _ _ _ _ _ c.loop-rest.invariant _ c.if-rest-eq0-2.false c.literal_line.ensures

pub returns : goal.returns
returns c = word-done _ _ _ _ _ _ _ c.loop-rest.invariant (omega arith)
