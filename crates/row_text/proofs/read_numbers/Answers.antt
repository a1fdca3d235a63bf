use Rattle.row_text.proofs.PieceLaws.{taking-none, piece_within, taking-more, taking_bad, taking-done}
use Rattle.row_text.proofs.read_numbers.Goals as goal

pub slice_bounds-parse_usize-end : goal.slice_bounds-parse_usize-end
slice_bounds-parse_usize-end c = search (piece_within, c.passing.ensures.value)

pub returns-in_err-numbers : goal.returns-in_err-numbers
returns-in_err-numbers c = rw c.from_residual.ensures (search (taking_bad, c.passing.ensures.value, c.in_err-numbers.was))

pub loop-at-preserved : goal.loop-at-preserved
loop-at-preserved c = search (taking-more, c.passing.ensures.value, c.in_ok-numbers.was)
