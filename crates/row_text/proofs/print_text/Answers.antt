use Rattle.row_text.proofs.RowLaws.{line-length, line-short, too_long, other_form, numbers_read}
use borrow.Author.Rules.{rules}
use Rattle.row_text.proofs.print_text.Goals as goal

pub returns-then-input-gt16384 : goal.returns-then-input-gt16384
returns-then-input-gt16384 c = search too_long

pub slice_bounds-read_numbers-end : goal.slice_bounds-read_numbers-end
slice_bounds-read_numbers-end c = search line-length

pub returns-in_default : goal.returns-in_default
returns-in_default c = search other_form

pub returns : goal.returns
returns c = search numbers_read
