-- For the contracts of the functions that print the composition from the work words.
use Rattle.std.specs.Prelude.{ℕ, suc, ◌+◌, ◌≤◌, List, [], ◌∷◌, ◌++◌, ◌≡◌, length}
use Rattle.lists.specs.Parts.{Bytes}
use Rattle.lists.specs.Words.{words_of}
use Rattle.text_decimal.specs.Printed.{text_of}
use Rattle.text_print.specs.declared.Printer.{Printer}
use Rattle.text_print.specs.Inner.Prints.{Prints, PrintsOn}
use Rattle.text_print.specs.Inner.Lines as lines
use Rattle.witness_read.specs.Sections.{Sections}
use Rattle.witness_load.specs.Inner.Loaded.{latch_words}
use Rattle.compose_spec.specs.Numbering.{input_firsts, latch_firsts, leaf_count}
use Rattle.compose_spec.specs.Sharing.{gates_from}
use Rattle.compose_spec.specs.Composing.{safety, literals_of, whole, composed_gates}
use Rattle.compose_spec.specs.Printing.{gate_lines, symbol_lines}
use Rattle.compose_joint.specs.Inner.Joint.{total_of, input_count, gate_count}
use Rattle.compose_gather.specs.declared.Totals.{Totals}
use Rattle.compose_gather.specs.Inner.Gathered.{Readable}
use Rattle.compose_layout.specs.declared.Layout.{Layout}
use Rattle.compose_layout.specs.Inner.Laid.{Regions, Listed}
use Rattle.compose_merge.specs.declared.Merged.{Merged}
use Rattle.compose_merge.specs.Inner.Merged.{ResultWords}
use Rattle.compose_lines.specs.Inner.Header.{header_of}
use Rattle.compose_print.specs.declared.Composition.{Composition}
use Rattle.compose_lines.specs.Inner.Text.{closing_text, latches_of, composed_counts, entry_names}

-- all that is printed stands in the work words
pub record Printable (buffer : Bytes) (pairs work : List ℕ) (at : Layout) (c : Merged) (t : Totals) (m : Sections) (ws : List Sections) : Type 0 where
  pub readable : Readable buffer pairs ws
  pub regions : Regions m ws at
  pub listed : Listed buffer pairs m ws at work
  pub result : ResultWords m ws at c work
  pub inputs : t.inputs ≡ total_of input_count ws
  pub gates : t.gates ≡ total_of gate_count ws
  pub few : leaf_count m ws + length (composed_gates m ws) ≤ 128000000
  pub few_bits : at.bits ≤ 128000000
  pub fits : at.end ≤ length work

abbrev pub PrintableOf : Composition → Sections → List Sections → Type 0
PrintableOf c m ws = Printable c.witnesses.texts.bytes.now c.witnesses.texts.pairs.now c.work.now c.at c.merged c.totals m ws

-- a text of the composition is printed
pub record PrintsText (Holds : Sections → List Sections → Type 0) (text : Sections → List Sections → Bytes) (p p' : Printer) : Type 0 where
  pub each : (m : Sections) (ws : List Sections) → Holds m ws → PrintsOn p (text m ws) p'

-- the text from the symbols of the latches on, from those of the inputs on, and so on up to the whole
abbrev pub from_latch_names : Sections → List Sections → Bytes
from_latch_names m ws = text_of (symbol_lines 108 0 (entry_names (latch_firsts m ws))) ++ closing_text

abbrev pub from_input_names : Sections → List Sections → Bytes
from_input_names m ws = text_of (symbol_lines 105 0 (entry_names (input_firsts m ws))) ++ from_latch_names m ws

abbrev pub from_gates : Sections → List Sections → Bytes
from_gates m ws = text_of (gate_lines (gates_from (suc (leaf_count m ws)) (composed_gates m ws))) ++ from_input_names m ws

abbrev pub from_constraints : Sections → List Sections → Bytes
from_constraints m ws = text_of (lines.literal_lines (literals_of (λ s. s.constraints) (whole m ws))) ++ from_gates m ws

abbrev pub from_bads : Sections → List Sections → Bytes
from_bads m ws = text_of (lines.literal_lines (literals_of safety (whole m ws))) ++ from_constraints m ws

abbrev pub from_latches : Sections → List Sections → Bytes
from_latches m ws = text_of (lines.gate_lines (suc (length (input_firsts m ws))) (words_of latch_words (latches_of m ws))) ++ from_bads m ws

abbrev pub from_inputs : Sections → List Sections → Bytes
from_inputs m ws = text_of (lines.literal_lines (lines.literals_from 1 (length (input_firsts m ws)))) ++ from_latches m ws

abbrev pub from_header : Sections → List Sections → Bytes
from_header m ws = (header_of (composed_counts m ws) ++ 10 ∷ []) ++ from_inputs m ws

-- the whole text, from the first byte of a slice on; r is its length
pub record PrintsWhole (Holds : Sections → List Sections → Type 0) (o o' : Bytes) (r : ℕ) : Type 0 where
  pub each : (m : Sections) (ws : List Sections) → Holds m ws → Prints o 0 (from_header m ws) o' r
