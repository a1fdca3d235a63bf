-- For the contracts of the composer's inner functions: what the work words hold when the witnesses are merged, or which reason applies.
use Rattle.std.specs.Prelude.{ℕ, suc, ◌+◌, ◌*◌, ◌≤◌, ◌<◌, true, List, map, ◌≡◌, length, take, Result, Ok, Err}
use Rattle.lists.specs.Answer.{Answer, refused, unless}
use Rattle.lists.specs.Parts.{part}
use Rattle.lists.specs.Tests.{Each}
use Rattle.lists.specs.Words.{words_of}
use Rattle.text_print.specs.Inner.Elements.{elements}
use Rattle.aiger.specs.declared.Refusal.{Refusal}
use Rattle.aiger.specs.Refusals.{refusal_number}
use Rattle.witness_text.specs.declared.AagCounts.{AagCounts}
use Rattle.witness_read.specs.Sections.{Sections}
use Rattle.witness_load.specs.Inner.Loaded.{latch_words}
use Rattle.compose_spec.specs.Numbering.{input_entries, latch_entries, input_firsts, latch_firsts, numbered, leaf_count}
use Rattle.compose_spec.specs.Sharing.{Operands}
use Rattle.compose_spec.specs.Inner.Keys.{key_of}
use Rattle.compose_spec.specs.Composing.{composed_gates, whole, gates_fit, all_defined, agree, composed_latches, safety, literals_of}
use Rattle.compose_spec.specs.Inner.Ranges.{InRange}
use Rattle.compose_joint.specs.Inner.Joint.{total_of, input_count, gate_count}
use Rattle.key_table.specs.Inner.Table.{Held}
use Rattle.compose_gather.specs.declared.Totals.{Totals}
use Rattle.compose_layout.specs.declared.Layout.{Layout}
use Rattle.compose_layout.specs.Inner.Laid.{Has, variable_total, Regions, Summed, Stands}
use Rattle.compose_merge.specs.declared.Merged.{Merged}

-- ---- before

-- the regions of witnesses in range that are not too many
pub record Plan (at : Layout) (m : Sections) (ws : List Sections) : Type 0 where
  pub regions : Regions m ws at
  pub range : Each InRange ws
  pub few : variable_total ws ≤ 128000000

-- all that stays as it is
pub record Base (at : Layout) (work : List ℕ) (m : Sections) (ws : List Sections) : Type 0 where
  pub plan : Plan at m ws
  pub fits : at.end ≤ length work
  pub stands : Stands at work m ws

-- the counts that are read of the model
pub record Model (mc : AagCounts) (m : Sections) : Type 0 where
  pub inputs : mc.inputs ≡ length m.inputs
  pub latches : mc.latches ≡ length m.latches

-- the model and the witnesses that can be merged
pub record Mergeable (mc : AagCounts) (t : Totals) (at : Layout) (work : List ℕ) (m : Sections) (ws : List Sections) : Type 0 where
  pub model : Model mc m
  pub totals : Summed t ws
  pub base : Base at work m ws

-- ---- after

-- the composed variables of all inputs
abbrev pub input_numbers : Sections → List Sections → List ℕ
input_numbers m ws = map (numbered 1 (input_firsts m ws)) (input_entries m 0 ws)

-- and of all latches
abbrev pub latch_numbers : Sections → List Sections → List ℕ
latch_numbers m ws = map (numbered (suc (length (input_firsts m ws))) (latch_firsts m ws)) (latch_entries m 0 ws)

-- next literal and reset of each composed latch
abbrev pub definition_words : Sections → List Sections → List ℕ
definition_words m ws = words_of latch_words (composed_latches (suc (length (input_firsts m ws))) (latch_firsts m ws) (all_defined (whole m ws)))

-- both operands are halves of a key
pub record SmallOperands (g : Operands) : Type 0 where
  pub left : g.left < 4294967296
  pub right : g.right < 4294967296

-- the counts of the composition
pub record Counted (m : Sections) (ws : List Sections) (c : Merged) : Type 0 where
  pub inputs : c.inputs ≡ length (input_firsts m ws)
  pub latches : c.latches ≡ length (latch_firsts m ws)
  pub gates : c.gates ≡ length (composed_gates m ws)
  pub bads : c.bads ≡ length (literals_of safety (whole m ws))
  pub constraints : c.constraints ≡ length (literals_of (λ s. s.constraints) (whole m ws))

-- what of the composition stands in the work words
pub record ResultWords (m : Sections) (ws : List Sections) (at : Layout) (c : Merged) (work : List ℕ) : Type 0 where
  pub counted : Counted m ws c
  pub inputs : Has work (at.vars + 1) (input_numbers m ws)
  pub latches : Has work (at.vars + 1 + total_of input_count ws) (latch_numbers m ws)
  pub keys : Held (total_of gate_count ws + 1) (map key_of (composed_gates m ws)) (part work at.gates (at.gates + (4 * total_of gate_count ws + 1)))
  pub small : Each SmallOperands (composed_gates m ws)
  pub definitions : Has work at.definitions (definition_words m ws)
  pub bads : elements (part work at.bad_bits (at.bad_bits + at.bits)) ≡ literals_of safety (whole m ws)
  pub constraints : elements (part work at.constraint_bits (at.constraint_bits + at.bits)) ≡ literals_of (λ s. s.constraints) (whole m ws)

-- 17 and 18 do not apply, and all that stood in front of the assigned numbers stands there still
pub record Done (m : Sections) (ws : List Sections) (at : Layout) (work work' : List ℕ) (c : Merged) : Type 0 where
  pub fits : gates_fit (leaf_count m ws) (composed_gates m ws) ≡ true
  pub agrees : agree (all_defined (whole m ws)) ≡ true
  pub result : ResultWords m ws at c work'
  pub kept : take at.assigned work' ≡ take at.assigned work

-- 17 or 18 applies, whatever would be next
abbrev pub Refuses : Sections → List Sections → ℕ → Type 0
Refuses m ws k =
    (rest : Answer Sections) → unless 17 (gates_fit (leaf_count m ws) (composed_gates m ws)) (unless 18 (agree (all_defined (whole m ws))) rest) ≡ refused k

-- what comes out
abbrev pub Outcome : Sections → List Sections → Layout → List ℕ → List ℕ → Result Merged Refusal → Type 0
Outcome m ws at work work' (Ok c) = Done m ws at work work' c
Outcome m ws at work work' (Err k) = Refuses m ws (refusal_number k)

-- ---- contracts

-- what comes out, whatever model and witnesses it holds of
pub record Goes (Stage : Sections → List Sections → Type 0) (at : Layout) (work work' : List ℕ) (r : Result Merged Refusal) : Type 0 where
  pub goes : (m : Sections) (ws : List Sections) → Stage m ws → Outcome m ws at work work' r
