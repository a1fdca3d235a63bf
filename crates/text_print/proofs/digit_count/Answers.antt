use mathlib.Core.Path.{sym}
use native.Mathlib.Omega.{arith}
use Rattle.text_decimal.proofs.DecimalLaws.{length_one, digits_are, decimal-length-word}
use borrow.Author.Rules.{rules}
use Rattle.text_print.proofs.digit_count.Goals as goal

pub returns-then-n-lt10 : goal.returns-then-n-lt10
returns-then-n-lt10 c = (sym (length_one _ (omega arith)), omega arith)

pub returns-then-n-lt100 : goal.returns-then-n-lt100
returns-then-n-lt100 c = (digits_are _ 1 (omega arith) (omega arith), omega arith)

pub returns-then-n-lt1000 : goal.returns-then-n-lt1000
returns-then-n-lt1000 c = (digits_are _ 2 (omega arith) (omega arith), omega arith)

pub returns-then-n-lt10000 : goal.returns-then-n-lt10000
returns-then-n-lt10000 c = (digits_are _ 3 (omega arith) (omega arith), omega arith)

pub returns-then-n-lt100000 : goal.returns-then-n-lt100000
returns-then-n-lt100000 c = (digits_are _ 4 (omega arith) (omega arith), omega arith)

pub returns-then-n-lt1000000 : goal.returns-then-n-lt1000000
returns-then-n-lt1000000 c = (digits_are _ 5 (omega arith) (omega arith), omega arith)

pub returns-then-n-lt10000000 : goal.returns-then-n-lt10000000
returns-then-n-lt10000000 c = (digits_are _ 6 (omega arith) (omega arith), omega arith)

pub returns-then-n-lt100000000 : goal.returns-then-n-lt100000000
returns-then-n-lt100000000 c = (digits_are _ 7 (omega arith) (omega arith), omega arith)

pub returns-then-n-lt1000000000 : goal.returns-then-n-lt1000000000
returns-then-n-lt1000000000 c = (digits_are _ 8 (omega arith) (omega arith), omega arith)

pub returns : goal.returns
returns c = (search rules, omega (arith, decimal-length-word c.args.n (omega arith)))
