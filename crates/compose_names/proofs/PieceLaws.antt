-- The pieces of a symbol line, printed one after the other.
use Prim.Native.Nat.{ℕ, ◌%◌}
use mathlib.Core.List.{[], ◌∷◌, ◌++◌, append_assoc}
use mathlib.Core.Option.{Option, some}
use mathlib.Core.Path.{◌≡◌, sym, ap, ◌∙◌, refl}
use native.Mathlib.Omega.{arith}
use lib.Dec.{eqb}
use Rattle.lists.specs.Parts.{Bytes}
use Rattle.text_decimal.specs.Decimal.{decimal}
use Rattle.text_print.specs.declared.Printer.{Printer}
use Rattle.text_print.specs.Inner.Prints.{PrintsOn}
use Rattle.text_print.proofs.PrintsLaws.{prints_as, prints_then}
use Rattle.compose_spec.specs.Mapping.{equals}
use Rattle.compose_spec.specs.Numbering.{or_else, private_name}
use Rattle.compose_spec.specs.Printing.{symbol_line}
use Rattle.compose_joint.specs.declared.Leaves.{Leaves}
use Rattle.compose_joint.specs.Inner.Joint.{unnamed_of}
use Rattle.compose_names.specs.Inner.Names.{name_for}

-- three pieces
pub three_pieces : (p : Printer) (b : Bytes) (p₁ : Printer) (c : Bytes) (p₂ : Printer) (d : Bytes) (p₃ : Printer)
    → PrintsOn p b p₁ → PrintsOn p₁ c p₂ → PrintsOn p₂ d p₃ → PrintsOn p (b ++ (c ++ d)) p₃
three_pieces p b p₁ c p₂ d p₃ q r s = prints_then p b p₁ (c ++ d) p₃ q (prints_then p₁ c p₂ d p₃ r s)

module _ (p : Printer) (leaves : Leaves) where
  module _ (w origin : ℕ) (name : Option Bytes) (p₁ p₂ : Printer) where
    -- `= ` and the literal
    pub shared-printed : origin % 2 ≡ 0 → PrintsOn p equals p₁ → PrintsOn p₁ (decimal origin) p₂ → PrintsOn p (name_for leaves w origin name) p₂
    shared-printed h q r =
        let even : eqb (origin % 2) 1 ≡ eqb 0 1 = ap (λ (x : ℕ). eqb x 1) h in
        prints_as p (equals ++ decimal origin) p₂ (name_for leaves w origin name) (sym (rw even refl)) (prints_then p equals p₁ (decimal origin) p₂ q r)

    -- `w`, the index, `:` and the witness's own name
    pub private_printed : (origin % 2 ≡ 0 → ⊥) → PrintsOn p (private_name [] w (some [])) p₁ → PrintsOn p₁ (or_else (unnamed_of leaves) name) p₂
        → PrintsOn p (name_for leaves w origin name) p₂
    private_printed h q r =
        let one : origin % 2 ≡ 1 = omega arith in
        let is_odd : eqb (origin % 2) 1 ≡ eqb 1 1 = ap (λ (x : ℕ). eqb x 1) one in
        let own : Bytes = or_else (unnamed_of leaves) name in
        prints_as p (private_name [] w (some []) ++ own) p₂ (name_for leaves w origin name)
        (ap (λ (x : Bytes). 119 ∷ x) (append_assoc (decimal w) (58 ∷ []) own) ∙ sym (rw is_odd refl))
        (prints_then p (private_name [] w (some [])) p₁ own p₂ q r)

-- the kind, the index, a space, the name and byte 10
pub line_printed : (p : Printer) (kind : ℕ) (p₁ : Printer) (k : ℕ) (p₂ p₃ : Printer) (name : Bytes) (p₄ p₅ : Printer) (kind' : ℕ) → kind ≡ kind'
    → PrintsOn p (kind ∷ []) p₁ → PrintsOn p₁ (decimal k) p₂ → PrintsOn p₂ (32 ∷ []) p₃ → PrintsOn p₃ name p₄ → PrintsOn p₄ (10 ∷ []) p₅
    → PrintsOn p (symbol_line kind' k name ++ 10 ∷ []) p₅
line_printed p kind p₁ k p₂ p₃ name p₄ p₅ kind' e q r s t u =
    let line : Bytes = 32 ∷ (name ++ 10 ∷ []) in
    prints_as p (kind ∷ (decimal k ++ line)) p₅ (symbol_line kind' k name ++ 10 ∷ [])
    (ap (λ (x : Bytes). kind ∷ x) (sym (append_assoc (decimal k) (32 ∷ name) (10 ∷ []))) ∙ ap (λ (x : ℕ). symbol_line x k name ++ 10 ∷ []) e)
    (three_pieces p (kind ∷ []) p₁ (decimal k) p₂ line p₅ q r (three_pieces p₂ (32 ∷ []) p₃ name p₄ (10 ∷ []) p₅ s t u))
