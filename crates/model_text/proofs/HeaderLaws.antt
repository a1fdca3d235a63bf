-- Laws of `header_of`, for the code that takes the header.
use Rattle.std.specs.Prelude.{Option, Some, None}
use Prim.Native.Nat.{ℕ}
use mathlib.Core.List.{List, [], ◌∷◌}
use mathlib.Core.Path.{◌≡◌, refl, ap, sym, ◌∙◌}
use native.Mathlib.Omega.{arith}
use lib.ListN.{length}
use borrow.Author.Tests.{eq-eqb, ne_eqb, le-leb}
use Rattle.lists.specs.Answer.{got, refused}
use Rattle.lists.specs.Parts.{Bytes}
use Rattle.text.specs.declared.Reader.TheVariants.{Transition}
use Rattle.text.specs.Lines.{lines_of}
use Rattle.model.specs.declared.Counts.{Counts}
use Rattle.circuit_lines.specs.SectionLines.{first_numbers}
use Rattle.circuit_lines.specs.Inner.OneLine.{at_most}
use Rattle.circuit_lines.specs.Inner.Takes.{Headed}
use Rattle.circuit_lines.proofs.NumbersLaws.{stored-all, stored-length}
use Rattle.model_text.specs.Header.{counts_from, five_counts, header_of}
use Rattle.model_text.specs.Inner.Takes as takes

-- ---- take_model_header

counts_of_five : (ns : List ℕ) → length ns ≡ 5 → got (counts_from ns) ≡ five_counts (Some ns)
counts_of_five ns h = rw (eq-eqb (length ns) 5 h)

not_five : (ns : List ℕ) → (length ns ≡ 5 → ⊥) → refused 4 ≡ five_counts (Some ns)
not_five ns h = rw (ne_eqb (length ns) 5 h)

over_five : (x : Option (List ℕ)) → at_most 5 x ≡ None → refused 4 ≡ five_counts x
over_five None h = refl
over_five (Some ns) h = not_five ns (λ e. five ns e h)
  where
    five : (ms : List ℕ) → length ms ≡ 5 → at_most 5 (Some ms) ≡ None → ⊥
    five ms e k = let g : Some ms ≡ None = simp (le-leb (length ms) 5 (omega arith)) at k in let z : ◌≡◌ {A = ℕ} 0 1 = cc in omega arith

abbrev zeros5 : List ℕ
zeros5 = 0 ∷ 0 ∷ 0 ∷ 0 ∷ 0 ∷ []

module _ (s : Bytes) (ns : List ℕ) where
  pub header_bad : at_most 5 (first_numbers Transition (lines_of s)) ≡ None → header_of (lines_of s) ≡ refused 4
  header_bad k = sym (over_five (first_numbers Transition (lines_of s)) k)

  module _ (x : ℕ) (r : Bytes) (headed : Headed Transition s zeros5 ns x r) where
    pub header_got : x ≡ 5 → (n : Counts) → n ≡ counts_from ns → takes.Headed s n r
    header_got e n p =
        let are : first_numbers Transition (lines_of s) ≡ Some ns = stored-all zeros5 ns (first_numbers Transition (lines_of s)) x headed.stored e in
        let five : length ns ≡ 5 = stored-length zeros5 ns (first_numbers Transition (lines_of s)) x headed.stored in
        record { counts = ap five_counts are ∙ sym (counts_of_five ns five) ∙ ap got (sym p); rest = headed.rest }

    pub header_other : (x ≡ 5 → ⊥) → header_of (lines_of s) ≡ refused 4
    header_other h = ap five_counts headed.stored.are ∙ sym (not_five headed.stored.numbers (λ e. h (headed.stored.count ∙ e)))
