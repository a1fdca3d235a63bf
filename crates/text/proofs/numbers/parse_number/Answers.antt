use Rattle.text.proofs.NumberLaws.{number-zero, number_long}
use Rattle.text.proofs.numbers.parse_number.Goals as goal

pub returns-then-long_zero : goal.returns-then-long_zero
returns-then-long_zero c = search number-zero

pub returns : goal.returns
returns c = search number_long
