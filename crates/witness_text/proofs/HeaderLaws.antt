-- Laws of `header_of`, for the code that takes the header.
use Rattle.std.specs.Prelude.{Option, Some, None}
use Prim.Native.Nat.{ℕ, ◌≤◌, ◌<◌}
use mathlib.Core.Bool.{Bool, true, false}
use mathlib.Core.List.{List}
use mathlib.Core.Path.{◌≡◌, refl, ap, sym, ◌∙◌}
use native.Mathlib.Omega.{arith}
use lib.ListN.{length}
use lib.Dec.{leb}
use borrow.Author.Tests.{le-leb, lt-leb}
use Rattle.lists.specs.Answer.{got, refused, unless}
use Rattle.lists.specs.Parts.{Bytes, zeros, front}
use Rattle.lists.proofs.ZeroLaws.{front-zeros}
use Rattle.text.specs.declared.Reader.TheVariants.{Witness}
use Rattle.text.specs.Lines.{lines_of}
use Rattle.circuit_lines.specs.SectionLines.{first_numbers}
use Rattle.circuit_lines.specs.Inner.OneLine.{at_most}
use Rattle.circuit_lines.specs.Inner.Takes.{Headed}
use Rattle.witness_text.specs.declared.AagCounts.{AagCounts}
use Rattle.witness_text.specs.Header.{counts_from, five_to_nine, header_of}
use Rattle.witness_text.specs.Inner.Takes as takes

-- ---- take_witness_header

taken_nine : (ns : List ℕ) → 5 ≤ length ns → length ns ≤ 9 → five_to_nine (Some ns) ≡ got (counts_from ns)
taken_nine ns h k = rw (le-leb 5 (length ns) h, le-leb (length ns) 9 k)

few : (ns : List ℕ) → length ns < 5 → five_to_nine (Some ns) ≡ refused 4
few ns h = rw (lt-leb 5 (length ns) h)

over_nine : (x : Option (List ℕ)) → at_most 9 x ≡ None → five_to_nine x ≡ refused 4
over_nine None h = refl
over_nine (Some ns) h = go (leb 5 (length ns)) (leb (length ns) 9) refl
  where
    go : (a b : Bool) → leb (length ns) 9 ≡ b → unless 4 a (unless 4 (leb (length ns) 9) (got (counts_from ns))) ≡ refused 4
    go false b e = refl
    go true false e = rw e
    go true true e = let k : Some ns ≡ None = simp e at h in let z : ◌≡◌ {A = ℕ} 0 1 = cc in absurd (omega arith)

-- numbers that stand in front of zeros: those that are absent are 0
counts-front : (ns : List ℕ) → length ns ≤ 9 → counts_from (front (zeros 9) ns) ≡ counts_from ns
counts-front ns h =
    rw (
      front-zeros 9 ns 0 h,
      front-zeros 9 ns 1 h,
      front-zeros 9 ns 2 h,
      front-zeros 9 ns 3 h,
      front-zeros 9 ns 4 h,
      front-zeros 9 ns 5 h,
      front-zeros 9 ns 6 h,
      front-zeros 9 ns 7 h,
      front-zeros 9 ns 8 h,
    )

module _ (s : Bytes) (ns : List ℕ) where
  pub header_bad : at_most 9 (first_numbers Witness (lines_of s)) ≡ None → header_of (lines_of s) ≡ refused 4
  header_bad k = over_nine (first_numbers Witness (lines_of s)) k

  module _ (x : ℕ) (r : Bytes) (headed : Headed Witness s (zeros 9) ns x r) where
    pub header_few : x < 5 → header_of (lines_of s) ≡ refused 4
    header_few h = ap five_to_nine headed.stored.are ∙ few headed.stored.numbers (omega (arith, headed.stored.count))

    pub header_got : 5 ≤ x → (n : AagCounts) → n ≡ counts_from ns → takes.Headed s n r
    header_got h n p =
        let ms : List ℕ = headed.stored.numbers in
        let most : length ms ≤ 9 = omega (arith, headed.stored.count, headed.stored.fits) in
        record {
          counts =
              ap five_to_nine headed.stored.are
              ∙ taken_nine ms (omega (arith, headed.stored.count)) most
              ∙ ap got (sym (p ∙ ap counts_from headed.stored.stand ∙ counts-front ms most));
          rest = headed.rest;
          behind = headed.behind;
        }
