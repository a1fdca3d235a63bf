use mathlib.Core.Path.{sym}
use Rattle.lists.proofs.ZeroLaws.{zeros-length}
use Rattle.row.proofs.main.Goals as goal

pub slice_bounds-answer-end : goal.slice_bounds-answer-end
slice_bounds-answer-end c = sym (zeros-length 700000)
