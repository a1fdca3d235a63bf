-- For callers: composed variables are small, composed latches are numbered in turn, and their definitions are the words of the composition's latches.
use Prim.Native.Nat.{ℕ, suc}
use mathlib.Core.List.{List, [], ◌∷◌, map}
use mathlib.Core.Path.{◌≡◌, refl}
use lib.ListN.{length}
use Rattle.lists.specs.Firsts.{appearing}
use Rattle.lists.specs.Words.{words_of}
use Rattle.witness_load.specs.Inner.Loaded.{latch_words}
use Rattle.compose_spec.specs.Numbering.{Entry, same_entry, numbered}
use Rattle.compose_spec.specs.Composing.{Defined, composed_latches}
use Rattle.compose_spec.proofs.PlacedLaws.{entry_self}
use Rattle.compose_gates.specs.Inner.Latches.{InTurn, met_in, definitions_from}
use Rattle.compose_gates.proofs.FirstLaws.{numbers_in_turn, numbers_met}

-- the composed variables of entries come in turn, and there are as many as entries appear
module _ (first : ℕ) (es : List Entry) where
  pub entries_in_turn : InTurn first 0 (map (numbered first (appearing same_entry [] es)) es)
  entries_in_turn = numbers_in_turn same_entry entry_self first es []

  pub entries_met : met_in first 0 (map (numbered first (appearing same_entry [] es)) es) ≡ length (appearing same_entry [] es)
  entries_met = numbers_met same_entry entry_self first es []

-- the definitions that are stored are the latches of the composition
pub composed-words : (ds : List Defined) (x : ℕ) (es : List Entry) → definitions_from x (length es) ds ≡ words_of latch_words (composed_latches x es ds)
composed-words ds x [] = refl
composed-words ds x (e ∷ es) = rw (composed-words ds (suc x) es)
