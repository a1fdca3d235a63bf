-- For the contracts of the functions that read all witnesses: what is counted of them.
use Rattle.std.specs.Prelude.{ℕ, Option, Some, None, cond, ltb, ◌+◌, ◌-◌, ◌≤◌, ◌<◌, ◌/◌, true, List, [], ◌∷◌, ◌≡◌, length}
use Rattle.lists.specs.Answer.{Answer, got, refused}
use Rattle.lists.specs.Parts.{Bytes}
use Rattle.lists.specs.Words.{in_order}
use Rattle.witness_text.specs.declared.AagCounts.{AagCounts}
use Rattle.witness_read.specs.Sections.{Sections}
use Rattle.witness_read.specs.Reading.{counts_in}
use Rattle.compose_gather.specs.declared.Totals.{Totals}

-- the room without so much, where it is enough
abbrev pub less : Option ℕ → ℕ → Option ℕ
less None n = None
less (Some room) n = cond (ltb room n) None (Some (room - n))

-- the room that a text with these counts leaves
abbrev pub room_after : Option ℕ → AagCounts → Option ℕ
room_after room n = less (less (less (less room n.max_variable) n.outputs) n.bads) n.constraints

-- the totals with one more text
abbrev pub added_counts : Totals → AagCounts → Totals
added_counts t n =
    record {
      room = room_after t.room n;
      inputs = t.inputs + n.inputs;
      latches = t.latches + n.latches;
      gates = t.gates + n.gates;
    }

-- the sums are words
pub record SmallSums (t : Totals) (n : AagCounts) : Type 0 where
  pub inputs : t.inputs + n.inputs < 4294967296
  pub latches : t.latches + n.latches < 4294967296
  pub gates : t.gates + n.gates < 4294967296

abbrev pub totals_from : Totals → List Sections → Totals
totals_from t [] = t
totals_from t (s ∷ ss) = totals_from (added_counts t (counts_in s)) ss

-- the totals of all witnesses, or the number of the first reason
abbrev pub checked_from : Totals → Answer (List Sections) → Answer Totals
checked_from t (got ws) = got (totals_from t ws)
checked_from t (refused n) = refused n

abbrev pub none_yet : Option ℕ → Totals
none_yet room = record { room = room; inputs = 0; latches = 0; gates = 0 }

-- pairs that 1 and 2 let pass
pub record FewInOrder (buffer : Bytes) (pairs : List ℕ) : Type 0 where
  pub few : length pairs / 2 ≤ 64
  pub order : in_order 0 (length buffer) pairs ≡ true
