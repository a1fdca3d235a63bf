use mathlib.Core.Path.{sym}
use Rattle.lists.proofs.ZeroLaws.{zeros-length}
use Rattle.replay.proofs.main.Goals as goal

pub slice_bounds-answers-end : goal.slice_bounds-answers-end
slice_bounds-answers-end c = sym (zeros-length 1000000)

pub slice_bounds-answers-end-2 : goal.slice_bounds-answers-end-2
slice_bounds-answers-end-2 c = sym (zeros-length 1000000)
