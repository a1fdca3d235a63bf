-- Laws of printing the composition part by part.
use Prim.Native.Nat.{ℕ, suc, ◌+◌, ◌*◌, ◌≤◌, ◌<◌}
use mathlib.Core.List.{List, [], ◌∷◌, ◌++◌, map}
use mathlib.Core.Path.{◌≡◌, refl, sym, ap, ◌∙◌, subst}
use native.Mathlib.Omega.{arith}
use lib.ListN.{length, length-map}
use Rattle.lists.specs.Parts.{Bytes, part}
use Rattle.lists.specs.Words.{words_of}
use Rattle.lists.proofs.PartLaws.{part_length}
use Rattle.lists.proofs.TestLaws.{each-so}
use Rattle.lists.proofs.WordLaws.{words-length}
use Rattle.text_decimal.specs.Printed.{text_of}
use Rattle.text_print.specs.declared.Printer.{Printer}
use Rattle.text_print.specs.Inner.Prints.{PrintsOn}
use Rattle.text_print.specs.Inner.Elements.{elements}
use Rattle.text_print.specs.Inner.Lines as lines
use Rattle.text_print.proofs.PrintsLaws.{prints_then}
use Rattle.witness_read.specs.Sections.{Sections}
use Rattle.witness_load.specs.Inner.Loaded.{latch_words}
use Rattle.compose_spec.specs.Numbering.{input_entries, latch_entries, input_firsts, latch_firsts, numbered, leaf_count}
use Rattle.compose_spec.specs.Sharing.{gates_from}
use Rattle.compose_spec.specs.Inner.Keys.{key_of}
use Rattle.compose_spec.specs.Composing.{safety, literals_of, whole, all_defined, composed_gates}
use Rattle.compose_spec.specs.Printing.{gate_lines, symbol_lines}
use Rattle.compose_spec.proofs.KeepLaws.{composed-latches-length}
use Rattle.compose_joint.specs.declared.Leaves.TheVariants as leaf
use Rattle.compose_joint.specs.Inner.Joint.{total_of, input_count, gate_count, origins}
use Rattle.compose_joint.proofs.AmountLaws.{origins-length}
use Rattle.compose_gather.specs.declared.Totals.{Totals}
use Rattle.compose_gather.specs.Inner.Gathered.{leaf_count_of}
use Rattle.compose_layout.specs.declared.Layout.{Layout}
use Rattle.compose_layout.specs.Inner.Laid.{Has, OfSome}
use Rattle.compose_merge.specs.declared.Merged.{Merged}
use Rattle.key_table.specs.Inner.Table.{Held}
use Rattle.compose_merge.specs.Inner.Merged.{SmallOperands, Counted, input_numbers, latch_numbers, definition_words}
use Rattle.compose_names.specs.Inner.Symbols.{SymbolWords, CanPrintSymbols, PrintsSymbols}
use Rattle.compose_names.proofs.EntryLaws.{entries_total}
use Rattle.compose_lines.specs.declared.Counts.{Counts}
use Rattle.compose_lines.specs.Inner.GateText.{Narrow, GateKeys, CanPrintGates, PrintsGates}
use Rattle.compose_lines.specs.Inner.Header.{header_of}
use Rattle.compose_lines.specs.Inner.Text.{closing_text, latches_of, composed_counts, entry_names}
use Rattle.compose_print.specs.Inner.Written.{Printable, PrintsText, from_latch_names, from_input_names, from_gates, from_constraints, from_bads, from_latches, from_inputs, from_header}

-- a list that stands, by its length
has_part : (work : List ℕ) (a n : ℕ) (xs : List ℕ) → length xs ≡ n → Has work a xs → part work a (a + n) ≡ xs
has_part work a n xs e h = subst (λ (j : ℕ). part work a (a + j) ≡ xs) e h.is

has_room : (work : List ℕ) (a n : ℕ) (xs : List ℕ) → length xs ≡ n → Has work a xs → a + n ≤ length work
has_room work a n xs e h = subst (λ (j : ℕ). a + j ≤ length work) e h.room

-- the words of the latches' definitions
latch_length : (m : Sections) (ws : List Sections) → length (definition_words m ws) ≡ 2 * length (latch_firsts m ws)
latch_length m ws =
    words-length latch_words 2 (λ x. refl) (latches_of m ws)
    ∙ ap (λ (j : ℕ). 2 * j) (composed-latches-length (suc (length (input_firsts m ws))) (latch_firsts m ws) (all_defined (whole m ws)))

-- a region of so many words
region_length : (work : List ℕ) (a e n : ℕ) → e ≡ a + n → e ≤ length work → length (part work a e) ≡ n
region_length work a e n f h = part_length work a e h ∙ omega arith

-- the counts of the header
abbrev counts_of : Merged → Counts
counts_of c =
    record {
      variables = c.inputs + c.latches + c.gates;
      inputs = c.inputs;
      latches = c.latches;
      gates = c.gates;
      bads = c.bads;
      constraints = c.constraints;
    }

counts-are : {m : Sections} {ws : List Sections} {c : Merged} → Counted m ws c → counts_of c ≡ composed_counts m ws
counts-are n = rw (n.inputs, n.latches, n.gates, n.bads, n.constraints) refl

module _ {buffer : Bytes} {pairs work : List ℕ} {at : Layout} {c : Merged} {t : Totals} where
  -- ---- symbols

  input-words : (m : Sections) (ws : List Sections) → Printable buffer pairs work at c t m ws
      → SymbolWords leaf.Inputs m ws buffer pairs work at.input_origins (at.vars + 1) 1
  input-words m ws k =
      let o = origins-length leaf.Inputs m ws in
      let n : ℕ = total_of (leaf_count_of leaf.Inputs) ws in
      let e : length (input_numbers m ws) ≡ n =
      length-map (input_entries m 0 ws) (numbered 1 (input_firsts m ws)) ∙ entries_total leaf.Inputs m 0 ws in
      record {
        readable = k.readable;
        blocks = k.listed.blocks;
        room = omega (arith, k.regions.latches, k.listed.stands.latches.room);
        origins_fit = has_room work at.input_origins n (origins leaf.Inputs m ws) o k.listed.stands.input_origins;
        numbers_fit = has_room work (at.vars + 1) n (input_numbers m ws) e k.result.inputs;
        origins-are = has_part work at.input_origins n (origins leaf.Inputs m ws) o k.listed.stands.input_origins;
        numbers-are = has_part work (at.vars + 1) n (input_numbers m ws) e k.result.inputs;
        small = omega arith;
      }

  pub input-symbols : OfSome (Printable buffer pairs work at c t) → CanPrintSymbols leaf.Inputs buffer pairs work at.input_origins (at.vars + 1) 1
  input-symbols k = record { m = k.m; ws = k.ws; holds = input-words k.m k.ws k.holds }

  latch_words_lem : (m : Sections) (ws : List Sections) → Printable buffer pairs work at c t m ws
      → SymbolWords leaf.Latches m ws buffer pairs work at.latch_origins (at.vars + 1 + t.inputs) (c.inputs + 1)
  latch_words_lem m ws k =
      let o = origins-length leaf.Latches m ws in
      let n : ℕ = total_of (leaf_count_of leaf.Latches) ws in
      let first : ℕ = suc (length (input_firsts m ws)) in
      let e : length (latch_numbers m ws) ≡ n =
      length-map (latch_entries m 0 ws) (numbered first (latch_firsts m ws)) ∙ entries_total leaf.Latches m 0 ws in
      let i : first ≡ c.inputs + 1 = omega (arith, k.result.counted.inputs) in
      let a : at.vars + 1 + total_of input_count ws ≡ at.vars + 1 + t.inputs = omega (arith, k.inputs) in
      subst (λ (j : ℕ). SymbolWords leaf.Latches m ws buffer pairs work at.latch_origins (at.vars + 1 + t.inputs) j) i
      (subst (λ (j : ℕ). SymbolWords leaf.Latches m ws buffer pairs work at.latch_origins j first) a
      (record {
        readable = k.readable;
        blocks = k.listed.blocks;
        room = omega (arith, k.regions.latches, k.listed.stands.latches.room);
        origins_fit = has_room work at.latch_origins n (origins leaf.Latches m ws) o k.listed.stands.latch_origins;
        numbers_fit = has_room work (at.vars + 1 + total_of input_count ws) n (latch_numbers m ws) e k.result.latches;
        origins-are = has_part work at.latch_origins n (origins leaf.Latches m ws) o k.listed.stands.latch_origins;
        numbers-are = has_part work (at.vars + 1 + total_of input_count ws) n (latch_numbers m ws) e k.result.latches;
        small = omega (arith, k.few, k.result.counted.inputs);
      }))

  pub latch_symbols_lem : OfSome (Printable buffer pairs work at c t)
      → CanPrintSymbols leaf.Latches buffer pairs work at.latch_origins (at.vars + 1 + t.inputs) (c.inputs + 1)
  latch_symbols_lem k = record { m = k.m; ws = k.ws; holds = latch_words_lem k.m k.ws k.holds }

  -- ---- gates

  gate_keys : (m : Sections) (ws : List Sections) → Printable buffer pairs work at c t m ws
      → GateKeys (composed_gates m ws) (c.inputs + c.latches + 1) (part work at.gates at.definitions) (t.gates + 1) c.gates
  gate_keys m ws k =
      let n = k.result.counted in
      let keys : List ℕ = map key_of (composed_gates m ws) in
      record {
        held =
            subst (λ (j : ℕ). Held (t.gates + 1) keys (part work at.gates j)) (sym k.regions.definitions)
            (subst (λ (j : ℕ). Held (j + 1) keys (part work at.gates (at.gates + (4 * total_of gate_count ws + 1)))) (sym k.gates) k.result.keys);
        counted = sym n.gates;
        narrow = each-so SmallOperands Narrow (λ g s. s.left) (composed_gates m ws) k.result.small;
        small = omega (arith, k.few, n.inputs, n.latches, n.gates);
      }

  pub gates-can : OfSome (Printable buffer pairs work at c t)
      → CanPrintGates (c.inputs + c.latches + 1) (part work at.gates at.definitions) (t.gates + 1) c.gates
  gates-can k = record { gs = composed_gates k.m k.ws; keys = gate_keys k.m k.ws k.holds }

  -- ---- a part, and then the rest

  module _ {p p' p'' : Printer} where
    then_printed : (part' rest : Sections → List Sections → Bytes)
        → ((m : Sections) (ws : List Sections) → Printable buffer pairs work at c t m ws → PrintsOn p (part' m ws) p')
        → PrintsText (Printable buffer pairs work at c t) rest p' p'' → PrintsText (Printable buffer pairs work at c t) (λ m ws. part' m ws ++ rest m ws) p p''
    then_printed part' rest q r =
        record { each = λ m ws k. prints_then p (part' m ws) p' (rest m ws) p'' (q m ws k) (r.each m ws k) }

    pub latch_names-printed : PrintsSymbols leaf.Latches buffer pairs work at.latch_origins (at.vars + 1 + t.inputs) (c.inputs + 1) p p'
        → PrintsOn p' closing_text p'' → PrintsText (Printable buffer pairs work at c t) from_latch_names p p''
    latch_names-printed q r =
        then_printed (λ m ws. text_of (symbol_lines 108 0 (entry_names (latch_firsts m ws)))) (λ m ws. closing_text) (λ m ws k. q m ws (latch_words_lem m ws k))
        (record { each = λ m ws k. r })

    pub input-names-printed : PrintsSymbols leaf.Inputs buffer pairs work at.input_origins (at.vars + 1) 1 p p'
        → PrintsText (Printable buffer pairs work at c t) from_latch_names p' p'' → PrintsText (Printable buffer pairs work at c t) from_input_names p p''
    input-names-printed q r =
        then_printed (λ m ws. text_of (symbol_lines 105 0 (entry_names (input_firsts m ws)))) from_latch_names (λ m ws k. q m ws (input-words m ws k)) r

    pub gates-printed : PrintsGates (c.inputs + c.latches + 1) (part work at.gates at.definitions) (t.gates + 1) c.gates p p'
        → PrintsText (Printable buffer pairs work at c t) from_input_names p' p'' → PrintsText (Printable buffer pairs work at c t) from_gates p p''
    gates-printed q r =
        then_printed (λ m ws. text_of (gate_lines (gates_from (suc (leaf_count m ws)) (composed_gates m ws)))) from_input_names
        (λ m ws k.
        let n = k.result.counted in
        let e : c.inputs + c.latches + 1 ≡ suc (leaf_count m ws) = omega (arith, n.inputs, n.latches) in
        subst (λ (j : ℕ). PrintsOn p (text_of (gate_lines (gates_from j (composed_gates m ws)))) p') e (q (composed_gates m ws) (gate_keys m ws k)))
        r

    pub constraints-printed : PrintsOn p (text_of (lines.literal_lines (elements (part work at.constraint_bits at.end)))) p'
        → PrintsText (Printable buffer pairs work at c t) from_gates p' p'' → PrintsText (Printable buffer pairs work at c t) from_constraints p p''
    constraints-printed q r =
        then_printed (λ m ws. text_of (lines.literal_lines (literals_of (λ s. s.constraints) (whole m ws)))) from_gates
        (λ m ws k.
        let e : elements (part work at.constraint_bits at.end) ≡ literals_of (λ s. s.constraints) (whole m ws) =
        ap (λ (j : ℕ). elements (part work at.constraint_bits j)) k.regions.end ∙ k.result.constraints in
        subst (λ (xs : List ℕ). PrintsOn p (text_of (lines.literal_lines xs)) p') e q)
        r

    pub bads-printed : PrintsOn p (text_of (lines.literal_lines (elements (part work at.bad_bits at.constraint_bits)))) p'
        → PrintsText (Printable buffer pairs work at c t) from_constraints p' p'' → PrintsText (Printable buffer pairs work at c t) from_bads p p''
    bads-printed q r =
        then_printed (λ m ws. text_of (lines.literal_lines (literals_of safety (whole m ws)))) from_constraints
        (λ m ws k.
        let e : elements (part work at.bad_bits at.constraint_bits) ≡ literals_of safety (whole m ws) =
        ap (λ (j : ℕ). elements (part work at.bad_bits j)) k.regions.constraint_bits ∙ k.result.bads in
        subst (λ (xs : List ℕ). PrintsOn p (text_of (lines.literal_lines xs)) p') e q)
        r

    pub latches-printed : PrintsOn p (text_of (lines.gate_lines (c.inputs + 1) (part work at.definitions (at.definitions + 2 * c.latches)))) p'
        → PrintsText (Printable buffer pairs work at c t) from_bads p' p'' → PrintsText (Printable buffer pairs work at c t) from_latches p p''
    latches-printed q r =
        then_printed (λ m ws. text_of (lines.gate_lines (suc (length (input_firsts m ws))) (words_of latch_words (latches_of m ws)))) from_bads
        (λ m ws k.
        let n = k.result.counted in
        let long : length (definition_words m ws) ≡ 2 * c.latches = latch_length m ws ∙ ap (λ (j : ℕ). 2 * j) (sym n.latches) in
        let e : part work at.definitions (at.definitions + 2 * c.latches) ≡ definition_words m ws =
        has_part work at.definitions (2 * c.latches) (definition_words m ws) long k.result.definitions in
        let f : c.inputs + 1 ≡ suc (length (input_firsts m ws)) = omega (arith, n.inputs) in
        subst (λ (j : ℕ). PrintsOn p (text_of (lines.gate_lines j (definition_words m ws))) p') f
        (subst (λ (xs : List ℕ). PrintsOn p (text_of (lines.gate_lines (c.inputs + 1) xs)) p') e q))
        r

    pub inputs-printed : PrintsOn p (text_of (lines.literal_lines (lines.literals_from 1 c.inputs))) p'
        → PrintsText (Printable buffer pairs work at c t) from_latches p' p'' → PrintsText (Printable buffer pairs work at c t) from_inputs p p''
    inputs-printed q r =
        then_printed (λ m ws. text_of (lines.literal_lines (lines.literals_from 1 (length (input_firsts m ws))))) from_latches
        (λ m ws k. subst (λ (j : ℕ). PrintsOn p (text_of (lines.literal_lines (lines.literals_from 1 j))) p') k.result.counted.inputs q)
        r

    pub header_printed : PrintsOn p (header_of (counts_of c) ++ 10 ∷ []) p'
        → PrintsText (Printable buffer pairs work at c t) from_inputs p' p'' → PrintsText (Printable buffer pairs work at c t) from_header p p''
    header_printed q r =
        then_printed (λ m ws. header_of (composed_counts m ws) ++ 10 ∷ []) from_inputs
        (λ m ws k. subst (λ (x : Counts). PrintsOn p (header_of x ++ 10 ∷ []) p') (counts-are k.result.counted) q)
        r

  -- ---- what the printing functions ask for

  pub inputs-small : OfSome (Printable buffer pairs work at c t) → 2 * (1 + c.inputs) < 9223372036854775808
  inputs-small k = omega (arith, k.holds.few, k.holds.result.counted.inputs)

  pub constraints-small : OfSome (Printable buffer pairs work at c t) → 64 * length (part work at.constraint_bits at.end) < 18446744073709551616
  constraints-small k =
      let n = region_length work at.constraint_bits at.end at.bits k.holds.regions.end k.holds.fits in omega (arith, n, k.holds.few_bits)

  pub bads-small : OfSome (Printable buffer pairs work at c t) → 64 * length (part work at.bad_bits at.constraint_bits) < 18446744073709551616
  bads-small k =
      let g = k.holds.regions in
      let n = region_length work at.bad_bits at.constraint_bits at.bits g.constraint_bits (omega (arith, k.holds.fits, g.end)) in
      omega (arith, n, k.holds.few_bits)

  -- the definitions of the composed latches end before the bads
  definitions-end : OfSome (Printable buffer pairs work at c t) → at.definitions + 2 * c.latches ≤ length work
  definitions-end k =
      omega (arith, k.holds.result.definitions.room, latch_length k.m k.ws, k.holds.result.counted.latches)

  pub latches-small : OfSome (Printable buffer pairs work at c t)
      → 2 * (c.inputs + 1 + length (part work at.definitions (at.definitions + 2 * c.latches))) < 9223372036854775808
  latches-small k =
      let n = part_length work at.definitions (at.definitions + 2 * c.latches) (definitions-end k) in
      omega (arith, n, k.holds.few, k.holds.result.counted.inputs, k.holds.result.counted.latches)

  -- the regions that are printed stand in order, within the words
  pub region_ends : OfSome (Printable buffer pairs work at c t)
      → (at.gates ≤ at.definitions) × ((at.definitions + 2 * c.latches ≤ length work) × ((at.definitions ≤ length work)
      × ((at.bad_bits ≤ at.constraint_bits) × ((at.constraint_bits ≤ at.end) × ((at.end ≤ length work) × (t.gates + 1 ≤ length work))))))
  region_ends k =
      let g = k.holds.regions in
      let f = k.holds.fits in
      let d : at.definitions ≤ length work = omega (arith, g.bad_bits, g.constraint_bits, g.end, f) in (
        omega (arith, g.definitions),
        (definitions-end k, (d, (omega (arith, g.constraint_bits), (omega (arith, g.end), (f, omega (arith, g.definitions, k.holds.gates, d)))))),
      )
