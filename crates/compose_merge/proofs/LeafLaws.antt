-- Laws of the numbers of inputs and latches: the words that are numbered are origins, and the numbers are those of the composition.
use Prim.Native.Nat.{ℕ, suc, ◌<◌}
use mathlib.Core.Bool.{false}
use mathlib.Core.List.{List}
use mathlib.Core.Path.{◌≡◌, ◌∙◌}
use native.Mathlib.Omega.{arith}
use lib.ListN.{length, get_or, length-map}
use Rattle.lists.specs.Bits.{odd}
use Rattle.lists.proofs.TestLaws.{each-so, each_at}
use Rattle.witness_read.specs.Sections.{Sections}
use Rattle.compose_spec.specs.declared.ModelLeaves.{ModelLeaves}
use Rattle.compose_spec.specs.Numbering.{input_entries, latch_entries, input_firsts, latch_firsts, numbered}
use Rattle.compose_joint.specs.declared.Leaves.{Leaves}
use Rattle.compose_joint.specs.Inner.Joint.{total_of, input_count, latch_count, model_of, origins}
use Rattle.compose_joint.proofs.AmountLaws.{input_entries_length, latch_entries_length}
use Rattle.compose_joint.proofs.OriginLaws.{OfKind, origins-within}
use Rattle.compose_numbers.specs.Inner.Marked.{HasSlot}
use Rattle.compose_merge.specs.Inner.Merged.{input_numbers, latch_numbers}

-- how many numbers there are
pub inputs_long : (m : Sections) (ws : List Sections) → length (input_numbers m ws) ≡ total_of input_count ws
inputs_long m ws = length-map (input_entries m 0 ws) (numbered 1 (input_firsts m ws)) ∙ input_entries_length m 0 ws

-- the same for latches
pub latches_long : (m : Sections) (ws : List Sections) → length (latch_numbers m ws) ≡ total_of latch_count ws
latches_long m ws = length-map (latch_entries m 0 ws) (numbered (suc (length (input_firsts m ws))) (latch_firsts m ws)) ∙ latch_entries_length m 0 ws

-- an even origin word has a word in the assigned numbers
kind-has-slot : (p : ModelLeaves) (x : ℕ) → (odd x ≡ false → OfKind p x) → HasSlot p.before p.count x
kind-has-slot p x h e = let k = h e in (k.above, omega (arith, k.slot, k.above))

-- so have all origin words
pub leaves-known : (kind : Leaves) (m : Sections) (ws : List Sections) (before size : ℕ) → before ≡ (model_of kind m).before → size ≡ (model_of kind m).count
    → (os : List ℕ) → os ≡ origins kind m ws → (i : ℕ) → i < length os → HasSlot before size (get_or os i 0)
leaves-known kind m ws before size f g os e i h =
    each_at (HasSlot before size) os i 0
    (rw (e, f, g)
    (each-so (λ x. odd x ≡ false → OfKind (model_of kind m) x) (HasSlot (model_of kind m).before (model_of kind m).count) (kind-has-slot (model_of kind m)) (origins kind m ws)
    (origins-within kind m ws)))
    h
