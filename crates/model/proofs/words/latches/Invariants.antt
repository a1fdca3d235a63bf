use mathlib.Core.Path.{◌≡◌}
use lib.ListN.{length, take}
use Rattle.model.specs.RecordWords.{latches_in}
use Rattle.model.proofs.words.latches.Given as goal

abbrev pub invariant-loop-i : goal.invariant-loop-i
invariant-loop-i l = (length l.latches ≡ 8) × (take l.i l.latches ≡ take l.i (latches_in l.words 8 67))
