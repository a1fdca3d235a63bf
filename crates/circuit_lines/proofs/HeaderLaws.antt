-- Laws for the functions that take the header's numbers.
use Rattle.std.specs.Prelude.{Option, Some, None}
use Prim.Native.Nat.{ℕ}
use mathlib.Core.Bool.{Bool, true, false, cond}
use mathlib.Core.List.{List, []}
use mathlib.Core.Path.{◌≡◌, ap, ◌∙◌}
use lib.ListN.{length, drop}
use Rattle.lists.specs.Parts.{Bytes}
use Rattle.text.specs.declared.Reader.{Reader}
use Rattle.text.specs.Lines.{lines_of}
use Rattle.text.specs.Fields.{head_of, is_header_word}
use Rattle.text.specs.Literals.{numbers_of}
use Rattle.text.specs.Inner.Fronts.{LineTaken, from_field, FieldTaken}
use Rattle.text.proofs.LineLaws.{lines-some, line-behind}
use Rattle.text.proofs.FieldLaws.{fields_none, fields_some}
use Rattle.text.proofs.LiteralLaws.{numbers_in}
use Rattle.circuit_lines.specs.SectionLines.{header_numbers, first_numbers}
use Rattle.circuit_lines.specs.Inner.OneLine.{at_most, Stores}
use Rattle.circuit_lines.specs.Inner.Takes.{Headed}

-- ---- header_line

module _ (reader : Reader) (l : Bytes) (o₀ : List ℕ) where
  -- a line with no field has not the word
  pub no_field : from_field l ≡ [] → Stores o₀ o₀ (header_numbers reader l) None
  no_field e = rw (fields_none l e)

  module _ (f r : Bytes) (k : FieldTaken l f r) where
    by_word : (b : Bool) → is_header_word f ≡ b → header_numbers reader l ≡ cond b (numbers_in reader r) None
    by_word b e =
        ap (λ (fs : List Bytes). cond (is_header_word (head_of fs)) (numbers_of reader (drop 1 fs)) None) (fields_some l f r k)
        ∙ ap (λ (x : Bool). cond x (numbers_in reader r) None) e

    pub no_word : is_header_word f ≡ false → Stores o₀ o₀ (header_numbers reader l) None
    no_word e = rw (by_word false e)

    pub after-word : is_header_word f ≡ true → (o : List ℕ) (x : Option ℕ) → Stores o₀ o (numbers_in reader r) x → Stores o₀ o (header_numbers reader l) x
    after-word e o x s = rw (by_word true e) s

-- ---- take_header_numbers

module _ (reader : Reader) (s : Bytes) (o₀ : List ℕ) where
  module _ (l : Bytes) (r : Bytes) (k : LineTaken s l r) (o : List ℕ) where
    first : first_numbers reader (lines_of s) ≡ header_numbers reader l
    first = ap (first_numbers reader) (lines-some s l r k)

    pub header_bad : at_most (length o₀) (header_numbers reader l) ≡ None → at_most (length o₀) (first_numbers reader (lines_of s)) ≡ None
    header_bad p = rw first p

    pub header_got : (m : ℕ) → Stores o₀ o (header_numbers reader l) (Some m) → Headed reader s o₀ o m r
    header_got m p = record { stored = rw first p; rest = ap (drop 1) (lines-some s l r k); behind = line-behind s l r k }
