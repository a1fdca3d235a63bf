-- Inputs, latches and outputs, taken into arrays.
use Prim.Native.Nat.{ℕ, ◌≤◌}
use mathlib.Core.Bool.{true}
use mathlib.Core.List.{List, []}
use mathlib.Core.Path.{◌≡◌, refl}
use lib.ListN.{length, replicate}
use Rattle.lists.specs.Answer.{refused}
use Rattle.lists.specs.Parts.{Bytes, front, zeros}
use Rattle.text.specs.declared.Reader.TheVariants.{Transition}
use Rattle.text.specs.Lines.{lines_of}
use Rattle.aiger.specs.Sections.{section}
use Rattle.aiger.proofs.SectionLaws.{section-length}
use Rattle.model.specs.declared.Counts.{Counts}
use Rattle.model.specs.declared.AigerLatch.{AigerLatch}
use Rattle.model.specs.Circuit.{record_from, no_latch}
use Rattle.model.specs.Limits.{counted}
use Rattle.model.proofs.CountLaws.{counted_facts}
use Rattle.circuit_lines.specs.SectionLines.{literal_line}
use Rattle.model_text.specs.ModelLines.{latch_line}
use Rattle.circuit_lines.specs.Inner.Takes.{FrontTaken}
use Rattle.model_read.specs.Inner.Passes.{start_of, record_with, Starts}

-- ---- the three sections, one after the other

-- a record whose arrays have the items in front and whose counts are theirs
record_is : (n : Counts) (is os : List ℕ) (ls : List AigerLatch) (inputs outputs : List ℕ) (latches : List AigerLatch)
    → inputs ≡ front (zeros 64) is → latches ≡ front (replicate 8 no_latch) ls → outputs ≡ front (zeros 128) os
    → length is ≡ n.inputs → length ls ≡ n.latches → length os ≡ n.outputs
    → record_from n inputs latches outputs ≡ record_with (record { variables = n.max_variable; inputs = is; latches = ls; outputs = os; gates = [] }) n.ands
record_is n is os ls inputs outputs latches a b d li ll lo = rw (a, b, d, li, ll, lo) refl

module _ (s : Bytes) (n : Counts) (k : counted n ≡ true) where
  pub head_without_inputs : (n.inputs ≤ 64 → section (literal_line Transition) n.inputs (lines_of s) ≡ refused 8) → start_of n (lines_of s) ≡ refused 8
  head_without_inputs e = rw (e (counted_facts n k).inputs) refl

  module _ (is : List ℕ) (r₁ : Bytes) (t₁ : n.inputs ≤ 64 → FrontTaken (literal_line Transition) s n.inputs (zeros 64) is r₁) where
    inputs : FrontTaken (literal_line Transition) s n.inputs (zeros 64) is r₁
    inputs = t₁ (counted_facts n k).inputs

    pub head_without_latches : (n.latches ≤ 8 → section latch_line n.latches (lines_of r₁) ≡ refused 8) → start_of n (lines_of s) ≡ refused 8
    head_without_latches e = rw (inputs.taken.section, e (counted_facts n k).latches) refl

    module _ (ls : List AigerLatch) (r₂ : Bytes) (t₂ : n.latches ≤ 8 → FrontTaken latch_line r₁ n.latches (replicate 8 no_latch) ls r₂) where
      latches : FrontTaken latch_line r₁ n.latches (replicate 8 no_latch) ls r₂
      latches = t₂ (counted_facts n k).latches

      pub head_without_outputs : (n.outputs ≤ 128 → section (literal_line Transition) n.outputs (lines_of r₂) ≡ refused 8) → start_of n (lines_of s) ≡ refused 8
      head_without_outputs e = rw (inputs.taken.section, latches.taken.section, e (counted_facts n k).outputs) refl

      pub head-taken : (os : List ℕ) (r₃ : Bytes) → (n.outputs ≤ 128 → FrontTaken (literal_line Transition) r₂ n.outputs (zeros 128) os r₃)
          → Starts s n (record_from n is ls os) r₃
      head-taken os r₃ t₃ =
          let outputs : FrontTaken (literal_line Transition) r₂ n.outputs (zeros 128) os r₃ = t₃ (counted_facts n k).outputs in
          record {
            circuit = record { variables = n.max_variable; inputs = inputs.items; latches = latches.items; outputs = outputs.items; gates = [] };
            variables = refl;
            takes = rw (inputs.taken.section, latches.taken.section, outputs.taken.section) refl;
            model =
                record_is n inputs.items outputs.items latches.items is os ls inputs.stand latches.stand outputs.stand
                (section-length (literal_line Transition) n.inputs (lines_of s) inputs.items (lines_of r₁) inputs.taken.section)
                (section-length latch_line n.latches (lines_of r₁) latches.items (lines_of r₂) latches.taken.section)
                (section-length (literal_line Transition) n.outputs (lines_of r₂) outputs.items (lines_of r₃) outputs.taken.section);
          }
