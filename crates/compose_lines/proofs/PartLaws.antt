-- The text of the composition is made up of the parts that are printed one after the other.
use Prim.Native.Nat.{ℕ, suc, ◌+◌}
use mathlib.Core.List.{List, [], ◌∷◌, ◌++◌, map, append_assoc}
use mathlib.Core.Option.{Option, some}
use mathlib.Core.Path.{◌≡◌, refl, sym, ap, ap₂, ◌∙◌}
use lib.ListN.{length, length-map}
use Rattle.lists.specs.Parts.{Bytes}
use Rattle.lists.specs.Words.{words_of}
use Rattle.text_decimal.specs.Printed.{text_of}
use Rattle.text_decimal.proofs.PrintedLaws.{text_append}
use Rattle.text_print.specs.Inner.Lines as lines
use Rattle.witness_read.specs.Sections.{NamedLatch, Sections, latch_names}
use Rattle.witness_load.specs.Inner.Loaded.{latch_words}
use Rattle.compose_spec.specs.Numbering.{Entry, input_firsts, latch_firsts, leaf_count}
use Rattle.compose_spec.specs.Sharing.{gates_from}
use Rattle.compose_spec.specs.Composing.{Defined, safety, literals_of, whole, all_defined, composed_gates, composed_latches, composed}
use Rattle.compose_spec.specs.Printing.{input_lines, latch_lines, gate_lines, literal_lines, symbol_lines, closing, tail_lines, printed}
use Rattle.compose_spec.proofs.KeepLaws.{composed-latches-length}
use Rattle.compose_spec.proofs.PrintableLaws.{gates-length}
use Rattle.compose_lines.specs.declared.Counts.{Counts}
use Rattle.compose_lines.specs.Inner.Header.{header_of, counts_of}
use Rattle.compose_lines.specs.Inner.Text.{closing_text, text_with, parts_of, latches_of, composed_counts, entry_names}
use Rattle.compose_lines.proofs.HeaderLaws.{header_is}

-- what comes behind some lines
then : (ls ms : List Bytes) (rest : Bytes) → text_of ms ≡ rest → text_of (ls ++ ms) ≡ text_of ls ++ rest
then ls ms rest e = text_append ls ms ∙ ap (λ (x : Bytes). text_of ls ++ x) e

-- the lines of inputs are those of variables in a row
input-lines : {A : Type 0} (x : ℕ) (is : List A) → input_lines x is ≡ lines.literal_lines (lines.literals_from x (length is))
input-lines x [] = refl
input-lines x (i ∷ is) = ap₂ (λ (l : Bytes) (ls : List Bytes). l ∷ ls) refl (input-lines (suc x) is)

-- the lines of latches are those of gates with next and reset for operands
latch_lines_lem : (x : ℕ) (qs : List NamedLatch) → latch_lines x qs ≡ lines.gate_lines x (words_of latch_words qs)
latch_lines_lem x [] = refl
latch_lines_lem x (q ∷ qs) = ap₂ (λ (l : Bytes) (ls : List Bytes). l ∷ ls) refl (latch_lines_lem (suc x) qs)

module _ (s : Sections) where
  -- the symbols and the last lines
  tail-parts : text_of (tail_lines s) ≡ text_of (symbol_lines 105 0 s.inputs) ++ (text_of (symbol_lines 108 0 (latch_names s)) ++ closing_text)
  tail-parts = then (symbol_lines 105 0 s.inputs) (symbol_lines 108 0 (latch_names s) ++ ((99 ∷ []) ∷ closing ∷ [])) _ (text_append (symbol_lines 108 0 (latch_names s)) ((99 ∷ []) ∷ closing ∷ []))

  -- what comes behind the latches
  abbrev behind : Bytes
  behind =
      text_of (literal_lines s.bads)
      ++ (text_of (literal_lines s.constraints)
      ++ (text_of (gate_lines s.gates)
      ++ (text_of (symbol_lines 105 0 s.inputs)
      ++ (text_of (symbol_lines 108 0 (latch_names s))
      ++ closing_text))))

  -- the text of sections without outputs
  pub printed-parts : s.outputs ≡ [] → printed s ≡ parts_of s
  unfolding printed
  printed-parts e =
      let gates : List Bytes = gate_lines s.gates ++ tail_lines s in
      let constraints : List Bytes = literal_lines s.constraints ++ gates in
      let bads : List Bytes = literal_lines s.bads ++ constraints in
      let latches : List Bytes = latch_lines (suc (length s.inputs)) s.latches ++ (literal_lines s.outputs ++ bads) in
      let none : literal_lines s.outputs ++ bads ≡ bads = ap (λ (ls : List ℕ). literal_lines ls ++ bads) e in
      ap (λ (l : Bytes). l ++ 10 ∷ text_of (input_lines 1 s.inputs ++ latches)) (header_is s e)
      ∙ (sym (append_assoc (header_of (counts_of s)) (10 ∷ []) (text_of (input_lines 1 s.inputs ++ latches)))
      ∙ ap (λ (x : Bytes). (header_of (counts_of s) ++ 10 ∷ []) ++ x)
      (then (input_lines 1 s.inputs) latches _
      (then (latch_lines (suc (length s.inputs)) s.latches) (literal_lines s.outputs ++ bads) _
      (ap text_of none ∙ then (literal_lines s.bads) constraints _ (then (literal_lines s.constraints) gates _ (then (gate_lines s.gates) (tail_lines s) _ tail-parts))))
      ∙ ap₂ (λ (a b : List Bytes). text_of a ++ (text_of b ++ behind)) (input-lines 1 s.inputs) (latch_lines_lem (suc (length s.inputs)) s.latches)))

-- ---- the composition

-- the latches have the names of the entries
latches-names : (x : ℕ) (es : List Entry) (ds : List Defined) → map (λ (q : NamedLatch). q.name) (composed_latches x es ds) ≡ entry_names es
latches-names x [] ds = refl
latches-names x (e ∷ es) ds = ap (λ (l : List (Option Bytes)). some e.name ∷ l) (latches-names (suc x) es ds)

module _ (m : Sections) (ws : List Sections) where
  -- the counts, where there are so many inputs, latches and gates
  abbrev counts_with : ℕ → ℕ → ℕ → Counts
  counts_with i q g =
      record {
        variables = i + q + g;
        inputs = i;
        latches = q;
        gates = g;
        bads = length (literals_of safety (whole m ws));
        constraints = length (literals_of (λ s. s.constraints) (whole m ws));
      }

  -- the counts of the composition
  counts-are : counts_of (composed m ws) ≡ composed_counts m ws
  counts-are =
      ap₂ (λ (i : ℕ) (q : ℕ). counts_with i q (length (gates_from (suc (leaf_count m ws)) (composed_gates m ws)))) (length-map (input_firsts m ws) (λ e. some e.name))
      (composed-latches-length (suc (length (input_firsts m ws))) (latch_firsts m ws) (all_defined (whole m ws)))
      ∙ ap (counts_with (length (input_firsts m ws)) (length (latch_firsts m ws))) (gates-length (suc (leaf_count m ws)) (composed_gates m ws))

  -- what is printed of the composition, part by part
  pub composed-parts : printed (composed m ws)
      ≡ text_with (composed_counts m ws) (words_of latch_words (latches_of m ws)) (literals_of safety (whole m ws)) (literals_of (λ s. s.constraints) (whole m ws))
      (gates_from (suc (leaf_count m ws)) (composed_gates m ws)) (entry_names (input_firsts m ws)) (entry_names (latch_firsts m ws))
  composed-parts =
      printed-parts (composed m ws) refl
      ∙ ap₂ (λ (n : Counts) (names : List (Option Bytes)). text_with n (words_of latch_words (latches_of m ws)) (literals_of safety (whole m ws)) (literals_of (λ s. s.constraints) (whole m ws))
      (gates_from (suc (leaf_count m ws)) (composed_gates m ws)) (entry_names (input_firsts m ws)) names) counts-are
      (latches-names (suc (length (input_firsts m ws))) (latch_firsts m ws) (all_defined (whole m ws)))
