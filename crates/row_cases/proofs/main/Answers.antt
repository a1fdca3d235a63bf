use mathlib.Core.Path.{sym}
use Rattle.lists.proofs.ZeroLaws.{zeros-length}
use Rattle.row_cases.proofs.main.Goals as goal

pub slice_bounds-all-end : goal.slice_bounds-all-end
slice_bounds-all-end c = sym (zeros-length 700000)
