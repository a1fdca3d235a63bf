use Rattle.std.proofs.Common.{◌≡◌, ◌*◌, length, ℕ}
use Rattle.witness_load.proofs.SectionLaws.{Loading}
use Rattle.witness_load.proofs.load_pairs.Given as goal

abbrev pub invariant-loop-i : goal.invariant-loop-i
invariant-loop-i g l =
    (length l.out ≡ length l.initial.out)
    × ((n : ℕ) → length l.initial.out ≡ 2 * n → Loading (g.K.LineKind.item l.kind) g.K.PairLine.words l.s n l.initial.out l.out l.left l.i)
