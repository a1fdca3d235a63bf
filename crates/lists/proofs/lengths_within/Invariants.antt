use Prim.Native.Nat.{◌*◌}
use mathlib.Core.Path.{◌≡◌}
use lib.Dec.{leb}
use lib.ListN.{drop}
use Rattle.lists.specs.Words.{lengths}
use Rattle.lists.proofs.lengths_within.Given as goal

abbrev pub invariant-loop-i : goal.invariant-loop-i
invariant-loop-i l = leb (lengths l.pairs) l.most ≡ leb (lengths (drop (2 * l.i) l.pairs)) l.left
