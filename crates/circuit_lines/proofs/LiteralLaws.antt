-- Laws for the functions that take a literal or a section of lines.
use Rattle.std.specs.Prelude.{Option, Some, None}
use Prim.Native.Nat.{ℕ, ◌+◌, ◌≤◌, ◌<◌}
use mathlib.Core.List.{List, [], ◌∷◌}
use mathlib.Core.Path.{◌≡◌, refl, ap, ◌∙◌}
use native.Mathlib.Omega.{arith}
use lib.ListN.{length, set}
use Rattle.lists.specs.Answer.{Answer, refused}
use Rattle.lists.specs.Parts.{Bytes}
use Rattle.text.specs.declared.Parsed.{Parsed}
use Rattle.text.specs.declared.Reader.{Reader}
use Rattle.text.specs.Lines.{lines_of}
use Rattle.text.specs.Inner.Fronts.{Behind, TakesLiteral}
use Rattle.text.proofs.LineLaws.{behind-none, behind_then}
use Rattle.text.proofs.LiteralLaws.{Refuses, ended, bad, literal-gets, literal-refuses, literal-behind}
use Rattle.aiger.specs.Sections.{section}
use Rattle.aiger.proofs.SectionLaws.{Storing, storing-none, storing-more, storing_bad, storing-all}
use Rattle.circuit_lines.specs.SectionLines.{literal_line}
use Rattle.circuit_lines.specs.Inner.Takes.{SectionTaken}

-- ---- one literal

module _ (reader : Reader) (s : Bytes) where
  none_taken : (r : Bytes) → Refuses reader s r → section (literal_line reader) 1 (lines_of s) ≡ refused 8
  none_taken r (ended e u) = ap (section (literal_line reader) 1) e
  none_taken r (bad l k u) = ap (section (literal_line reader) 1) k.lines ∙ rw u

  -- what `take_literal` says of the section of one line
  module _ (p : Parsed (Option ℕ)) (q : TakesLiteral reader s p) where
    pub no_line : p.value ≡ None → section (literal_line reader) 1 (lines_of s) ≡ refused 8
    no_line u = none_taken p.rest.now (literal-refuses reader s p q u)

    pub line_taken : (v : ℕ) → p.value ≡ Some v → SectionTaken (literal_line reader) s 1 (v ∷ []) p.rest.now
    line_taken v u =
        let g = literal-gets reader s p q v u in
        record { section = ap (section (literal_line reader) 1) g.passed.lines ∙ rw g.value; behind = literal-behind reader s p q }

-- ---- take_lines

-- the first i items of as many lines as o₀ is long are stored in o; the text r is left
pub record Lines {A : Type 0} (item : Bytes → Answer A) (s : Bytes) (o₀ o : List A) (i : ℕ) (r : Bytes) : Type 0 where
  pub storing : Storing item (length o₀) (lines_of s) o₀ o i (lines_of r)
  pub behind : Behind s r

module _ {A : Type 0} (item : Bytes → Answer A) (s : Bytes) (o₀ : List A) where
  pub lines-none : Lines item s o₀ o₀ 0 s
  lines-none = record { storing = storing-none item (length o₀) (lines_of s) o₀; behind = behind-none s }

  module _ (o : List A) (i : ℕ) (r : Bytes) (k : Lines item s o₀ o i r) where
    module _ (h : i < length o₀) where
      pub lines-more : (v : A) (t : Bytes) → SectionTaken item r 1 (v ∷ []) t → Lines item s o₀ (set o i v) (i + 1) t
      lines-more v t q =
          record {
            storing =
                storing-more item (length o₀) (lines_of s) o₀ o i (lines_of r) k.storing h (omega (arith, k.storing.grown.same)) v (lines_of t) q.section;
            behind = behind_then s r t k.behind q.behind;
          }

      pub lines_bad : section item 1 (lines_of r) ≡ refused 8 → section item (length o₀) (lines_of s) ≡ refused 8
      lines_bad q = storing_bad item (length o₀) (lines_of s) o₀ o i (lines_of r) k.storing h q

    pub lines-done : length o₀ ≤ i → SectionTaken item s (length o₀) o r
    lines-done h = record { section = storing-all item (length o₀) (lines_of s) o₀ o i (lines_of r) k.storing refl h; behind = k.behind }
