-- For the contracts of the composer's inner functions: the text of the composition, in the parts that are printed one after the other.
use Rattle.std.specs.Prelude.{ℕ, suc, ◌+◌, List, [], ◌∷◌, ◌++◌, map, length}
use Rattle.std.proofs.Math.Option.{Option, some}
use Rattle.lists.specs.Quoted.{bytes}
use Rattle.lists.specs.Parts.{Bytes}
use Rattle.lists.specs.Words.{words_of}
use Rattle.text_decimal.specs.Printed.{text_of}
use Rattle.text_print.specs.Inner.Lines as lines
use Rattle.aiger.specs.declared.Gate.{Gate}
use Rattle.witness_read.specs.Sections.{NamedLatch, Sections, latch_names}
use Rattle.witness_load.specs.Inner.Loaded.{latch_words}
use Rattle.compose_spec.specs.Numbering.{Entry, input_firsts, latch_firsts, leaf_count}
use Rattle.compose_spec.specs.Composing.{safety, literals_of, whole, all_defined, composed_gates, composed_latches}
use Rattle.compose_spec.specs.Printing.{gate_lines, symbol_lines, closing}
use Rattle.compose_lines.specs.declared.Counts.{Counts}
use Rattle.compose_lines.specs.Inner.Header.{header_of, counts_of}

-- the line `c` and the composer's comment
abbrev pub closing_text : Bytes
closing_text = text_of (bytes "c" ∷ closing ∷ [])

-- the texts of header, inputs, latches, bads, constraints, gates, symbols of inputs, symbols of latches, and the last lines; two words a latch, next and reset
abbrev pub text_with : Counts → List ℕ → List ℕ → List ℕ → List Gate → List (Option Bytes) → List (Option Bytes) → Bytes
text_with n latches bads constraints gates input_names names =
    (header_of n ++ 10 ∷ [])
    ++ (text_of (lines.literal_lines (lines.literals_from 1 n.inputs))
    ++ (text_of (lines.gate_lines (suc n.inputs) latches)
    ++ (text_of (lines.literal_lines bads)
    ++ (text_of (lines.literal_lines constraints)
    ++ (text_of (gate_lines gates)
    ++ (text_of (symbol_lines 105 0 input_names)
    ++ (text_of (symbol_lines 108 0 names)
    ++ closing_text)))))))

-- the text of sections without outputs
abbrev pub parts_of : Sections → Bytes
parts_of s = text_with (counts_of s) (words_of latch_words s.latches) s.bads s.constraints s.gates s.inputs (latch_names s)

-- the latches of the composition
abbrev pub latches_of : Sections → List Sections → List NamedLatch
latches_of m ws = composed_latches (suc (length (input_firsts m ws))) (latch_firsts m ws) (all_defined (whole m ws))

-- the counts of the composition
abbrev pub composed_counts : Sections → List Sections → Counts
composed_counts m ws =
    record {
      variables = leaf_count m ws + length (composed_gates m ws);
      inputs = length (input_firsts m ws);
      latches = length (latch_firsts m ws);
      gates = length (composed_gates m ws);
      bads = length (literals_of safety (whole m ws));
      constraints = length (literals_of (λ s. s.constraints) (whole m ws));
    }

-- the names of entries
abbrev pub entry_names : List Entry → List (Option Bytes)
entry_names es = map (λ e. some e.name) es
