use Prim.Native.Nat.{ℕ, ◌<◌}
use mathlib.Core.Path.{◌≡◌}
use lib.ListN.{get_or, length}
use borrow.Author.Rules.{rules}
use Rattle.model.specs.Circuit.{next_of, no_latch}
use Rattle.model.proofs.WordsLaws.{mapped}
use Rattle.model.proofs.lent.LentModel.nexts.Goals as goal

pub returns : goal.returns
returns c =
    let each : (i : ℕ) → i < length c.map.result → get_or c.map.result i 0 ≡ (get_or c.args.self.now.latches i no_latch).next =
    λ i h. let e = (c.map.ensures.items.at i no_latch 0 (search rules)).2 in search rules in
    mapped next_of c.args.self.now.latches c.map.result no_latch 0 (search rules) each
