-- The header, piece by piece.
use Prim.Native.Nat.{ℕ}
use mathlib.Core.List.{List, [], ◌∷◌, ◌++◌}
use mathlib.Core.Path.{◌≡◌, refl, sym, ap}
use Rattle.lists.specs.Parts.{Bytes}
use Rattle.text.specs.Fields.{aag}
use Rattle.text_print.specs.declared.Printer.{Printer}
use Rattle.text_print.specs.Inner.Lines.{fields_text}
use Rattle.text_print.specs.Inner.Prints.{PrintsOn}
use Rattle.text_print.proofs.LineLaws.{spaced_fields}
use Rattle.text_print.proofs.PrintsLaws.{prints_as, prints_then}
use Rattle.witness_read.specs.Sections.{Sections}
use Rattle.compose_spec.specs.Printing.{header_line}
use Rattle.compose_lines.specs.declared.Counts.{Counts}
use Rattle.compose_lines.specs.Inner.Header.{header_of, counts_of}

-- numbers, each with a space before it
abbrev fields : List ℕ → Bytes
fields ns = fields_text (λ n. n) ns

-- the numbers of the header
abbrev pub header_numbers : Counts → List ℕ
header_numbers n = n.variables ∷ n.inputs ∷ n.latches ∷ 0 ∷ n.gates ∷ n.bads ∷ n.constraints ∷ 0 ∷ 0 ∷ []

-- `aag`, the fields, and the end of the line
pub header_printed : (p : Printer) (n : Counts) (p₁ p₂ p₃ : Printer) → PrintsOn p aag p₁ → PrintsOn p₁ (fields (header_numbers n)) p₂ → PrintsOn p₂ (10 ∷ []) p₃
    → PrintsOn p (header_of n ++ 10 ∷ []) p₃
unfolding header_of
header_printed p n p₁ p₂ p₃ q r s =
    let line : Bytes = aag ++ fields (header_numbers n) in
    prints_as p (line ++ 10 ∷ []) p₃ (header_of n ++ 10 ∷ []) (ap (λ (x : Bytes). x ++ 10 ∷ []) (sym (spaced_fields aag (header_numbers n))))
    (prints_then p line p₂ (10 ∷ []) p₃ (prints_then p aag p₁ (fields (header_numbers n)) p₂ q r) s)

-- the header of sections without outputs
pub header_is : (s : Sections) → s.outputs ≡ [] → header_line s ≡ header_of (counts_of s)
unfolding header_of
header_is s e = rw e refl
