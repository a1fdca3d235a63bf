-- The words of an outcome: which latch and which output each bit is (R6.2), and the two words of the outputs (R12.7).
use Prim.Native.Nat.{ℕ, ◌+◌, ◌*◌, ◌/◌, ◌^◌, ◌≤◌, ◌<◌}
use mathlib.Core.Bool.{Bool, false}
use mathlib.Core.List.{List, map}
use mathlib.Core.Path.{◌≡◌, ap, ◌∙◌}
use native.Mathlib.Omega.{arith}
use lib.ListN.{length, get_or, take, drop, length-map, length-take, length-drop, drop_of_length-le}
use lib.Seq.{get_or-take, get_or-drop}
use Rattle.lists.specs.Bits.{odd, packed}
use Rattle.lists.proofs.BitLaws.{packed_halves, packed-at, packed_under}
use Rattle.lists.proofs.MapLaws.{map_at}
use Rattle.aiger.specs.Gates.{Valuation, value}
use Rattle.model.specs.Circuit.{Circuit, nexts_of}
use Rattle.model_step.specs.Step.{outcome_under}

module _ (c : Circuit) (v : Valuation) where
  abbrev outs : List Bool
  outs = map (value v) c.outputs

  -- both halves together are the number of all outputs
  pub outcome_halves : (outcome_under c v).low + 2 ^ 64 * (outcome_under c v).high ≡ packed outs
  unfolding outcome_under
  outcome_halves = packed_halves 64 outs

  -- bit k of it is output k
  pub output-bit : (k : ℕ) → k < length c.outputs → odd (((outcome_under c v).low + 2 ^ 64 * (outcome_under c v).high) / 2 ^ k) ≡ value v (get_or c.outputs k 0)
  output-bit k h =
      ap (λ (n : ℕ). odd (n / 2 ^ k)) outcome_halves
      ∙ packed-at outs k (rw (length-map c.outputs (value v)) h)
      ∙ map_at (value v) c.outputs k 0 false h

  -- bit k of the low half is output k, and bit k of the high half output 64 + k
  pub low_bit : (k : ℕ) → k < 64 → k < length c.outputs → odd ((outcome_under c v).low / 2 ^ k) ≡ value v (get_or c.outputs k 0)
  unfolding outcome_under
  low_bit k b h =
      packed-at (take 64 outs) k (simp (length-take, length-map) (omega arith))
      ∙ get_or-take 64 outs k false b
      ∙ map_at (value v) c.outputs k 0 false h

  pub high_bit : (k : ℕ) → 64 + k < length c.outputs → odd ((outcome_under c v).high / 2 ^ k) ≡ value v (get_or c.outputs (64 + k) 0)
  unfolding outcome_under
  high_bit k h =
      packed-at (drop 64 outs) k (simp (length-drop, length-map) (omega arith))
      ∙ get_or-drop 64 outs k false
      ∙ map_at (value v) c.outputs (64 + k) 0 false h

  -- bit k of the target is the value of latch k's next literal
  pub target-bit : (k : ℕ) → k < length (nexts_of c) → odd ((outcome_under c v).target / 2 ^ k) ≡ value v (get_or (nexts_of c) k 0)
  unfolding outcome_under
  target-bit k h = packed-at (map (value v) (nexts_of c)) k (rw (length-map (nexts_of c) (value v)) h) ∙ map_at (value v) (nexts_of c) k 0 false h

  pub target_lt : (outcome_under c v).target < 2 ^ length c.latches
  unfolding outcome_under
  target_lt = packed_under (map (value v) (nexts_of c)) (length c.latches) (simp length-map (omega arith))

  pub low_lt : (outcome_under c v).low < 2 ^ 64
  unfolding outcome_under
  low_lt = packed_under (take 64 outs) 64 (simp length-take (omega arith))

  pub high_lt : length c.outputs ≤ 128 → (outcome_under c v).high < 2 ^ 64
  unfolding outcome_under
  high_lt h = packed_under (drop 64 outs) 64 (simp (length-drop, length-map) (omega arith))

  pub high_none : length c.outputs ≤ 64 → (outcome_under c v).high ≡ 0
  unfolding outcome_under
  high_none h = rw (drop_of_length-le outs {i = 64} (simp length-map (omega arith)))
