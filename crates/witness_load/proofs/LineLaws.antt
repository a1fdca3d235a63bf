-- Lines passed one at a time, and where a line stands in a text.
use Prim.Native.Nat.{ℕ, suc, ◌+◌, ◌-◌, ◌≤◌, ◌<◌, min}
use mathlib.Core.List.{[], ◌∷◌}
use mathlib.Core.Path.{◌≡◌, sym, ap, ◌∙◌}
use native.Mathlib.Nat.{add-sub_cancel_left}
use native.Mathlib.Omega.{arith}
use lib.ListN.{length, drop, length-take, length-drop}
use lib.Seq.{drop-nil}
use Rattle.lists.specs.Parts.{Bytes}
use Rattle.lists.proofs.PartLaws.{drop_min}
use Rattle.scan.specs.Spans.{span, in_line}
use Rattle.scan.proofs.SpanLaws.{span_le}
use Rattle.text.specs.Lines.{lines_of}
use Rattle.text.specs.Inner.Fronts.{Behind, LineTaken}
use Rattle.text.proofs.LineLaws.{lines_none, lines-some, line-behind, behind-none, behind_then}
use Rattle.witness_load.specs.Inner.Loading.{StandsAt}

-- of n lines of s, i are passed, and the text p is left
pub record Passing (s : Bytes) (n : ℕ) (p : Bytes) (i : ℕ) : Type 0 where
  pub is : drop (n - i) (lines_of p) ≡ drop n (lines_of s)
  pub behind : Behind s p

module _ (s : Bytes) (n : ℕ) where
  pub passing-none : Passing s n s 0
  passing-none = let e : n - 0 ≡ n = omega arith in record { is = rw e; behind = behind-none s }

  module _ (p : Bytes) (i : ℕ) (k : Passing s n p i) where
    module _ (h : i < n) where
      -- there are no more lines
      pub passing-end : p ≡ [] → lines_of p ≡ drop n (lines_of s)
      passing-end u =
          let e : lines_of p ≡ [] = lines_none p u in
          e ∙ sym (ap (drop (n - i)) e ∙ drop-nil (n - i)) ∙ k.is

      pub passing-more : (l r : Bytes) → LineTaken p l r → Passing s n r (i + 1)
      passing-more l r t =
          record {
            is = ap (λ (x : ℕ). drop x (l ∷ lines_of r)) one ∙ sym (ap (drop (n - i)) (lines-some p l r t)) ∙ k.is;
            behind = behind_then s p r k.behind (line-behind p l r t);
          }
        where
          one : suc (n - (i + 1)) ≡ n - i
          one = omega arith

    pub passing-done : n ≤ i → lines_of p ≡ drop n (lines_of s)
    passing-done h = let e : n - i ≡ 0 = omega arith in ap (λ (x : ℕ). drop x (lines_of p)) (sym e) ∙ k.is

-- the first line of what is left of a text stands where that begins
module _ (s p : Bytes) (k : Behind s p) (h : length p < length s) (l r : Bytes) (t : LineTaken p l r) where
  abbrev place : ℕ
  place = length s - length p

  rest-is : drop place s ≡ p
  rest-is =
      let least : place ≡ min k.size (length s) = omega (arith, ap length k.is, length-drop k.size s) in
      ap (λ (j : ℕ). drop j s) least ∙ drop_min k.size s ∙ sym k.is

  size : length l ≡ span in_line p
  size = omega (arith, ap length t.line, length-take (span in_line p) p, span_le in_line p)

  pub line-stands : StandsAt s l place
  line-stands =
      record {
        past = omega arith;
        fits = omega (arith, size, span_le in_line p);
        is = rw (add-sub_cancel_left place (length l), rest-is, size) (sym t.line);
      }
