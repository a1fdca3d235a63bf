-- The set bits of a word, printed from the lowest on, and the words of a set, one after the other.
use Prim.Native.Nat.{ℕ, zero, suc, ◌+◌, ◌-◌, ◌*◌, ◌/◌, ◌%◌, ◌^◌, ◌≤◌, ◌<◌}
use mathlib.Core.Path.{◌≡◌, refl, ap, ◌∙◌}
use mathlib.Core.Bool.{true, false}
use mathlib.Core.List.{List, [], ◌∷◌, ◌++◌, map-append}
use mathlib.Core.Logic.{⊎_elim}
use native.Mathlib.Nat.{add-zero, div-one, div-div-eq-div-mul, pow-succ', mul_assoc, mul-zero}
use native.Mathlib.Numerals.{add-one}
use native.Mathlib.Omega.{arith}
use borrow.Author.Tests.{eq-eqb}
use lib.ListN.{length, get_or}
use lib.Pow.{pow_mono}
use Rattle.lists.specs.Bits.{odd}
use Rattle.lists.specs.Parts.{Bytes}
use Rattle.lists.specs.Sets.{holds}
use Rattle.lists.proofs.BoolLaws.{below_or}
use Rattle.text_decimal.specs.Printed.{number_line, text_of}
use Rattle.text_decimal.proofs.PrintedLaws.{text_append}
use Rattle.text_print.specs.Inner.Elements.{passing, elements, elements_in}
use Rattle.text_print.specs.Inner.Lines.{literal_lines}
use Rattle.text_print.specs.declared.Printer.{Printer}
use Rattle.text_print.specs.Inner.Prints.{PrintsOn}
use Rattle.text_print.proofs.PrintsLaws.{Printing, printing-none, printing-more, printing_as, printing-done}
use Rattle.text_print.proofs.LineLaws.{literal-first}
use Rattle.text_print.proofs.ElementLaws.{passing_append}

-- the bits of `rest` are those of the numbers from k on, `left` of them
pub record BitsFrom (ws : List ℕ) (k left rest : ℕ) : Type 0 where
  pub agree : (m : ℕ) → m < left → holds ws (k + m) ≡ odd (rest / 2 ^ m)
  pub small : rest < 2 ^ left

pub bits-word : (ws : List ℕ) (j : ℕ) → get_or ws j 0 < 2 ^ 64 → BitsFrom ws (64 * j) 64 (get_or ws j 0)
unfolding holds
bits-word ws j h = record { agree = same; small = h }
  where
    same : (m : ℕ) → m < 64 → holds ws (64 * j + m) ≡ odd (get_or ws j 0 / 2 ^ m)
    same m b =
        let q : (64 * j + m) / 64 ≡ j = omega arith in
        let r : (64 * j + m) % 64 ≡ m = omega arith in
        rw (q, r)

module _ (ws : List ℕ) (k left rest : ℕ) (b : BitsFrom ws k (suc left) rest) where
  bits-first : holds ws k ≡ odd rest
  bits-first = rw (add-zero k, div-one rest) at (b.agree 0 (omega arith))

  bits-next : BitsFrom ws (suc k) left (rest / 2)
  bits-next =
      let s : rest < 2 * 2 ^ left = rw (pow-succ' 2 left) at b.small in
      record { agree = same; small = omega arith }
    where
      same : (m : ℕ) → m < left → holds ws (suc k + m) ≡ odd (rest / 2 / 2 ^ m)
      same m h =
          let e : suc k + m ≡ k + suc m = omega arith in
          rw (e, div-div-eq-div-mul rest 2 (2 ^ m), ← pow-succ' 2 m) (b.agree (suc m) (omega arith))

-- t zeros passed over
pub record Passed (ws : List ℕ) (k left t rest : ℕ) : Type 0 where
  pub is : passing (holds ws) k left ≡ passing (holds ws) (k + t) (left - t)
  pub bits : BitsFrom ws (k + t) (left - t) rest

pub bits-zeros : (ws : List ℕ) (t k left rest : ℕ) → t ≤ left → BitsFrom ws k left (2 ^ t * rest) → Passed ws k left t rest
bits-zeros ws zero k left rest h b =
    let n : left - 0 ≡ left = omega arith in
    let m : 1 * rest ≡ rest = omega arith in
    record { is = rw (add-zero k, n); bits = rw (add-zero k, n, ← m) b }
bits-zeros ws (suc t) k zero rest h b = absurd (omega arith)
bits-zeros ws (suc t) k (suc left) rest h b =
    let twice : 2 ^ suc t * rest ≡ 2 * (2 ^ t * rest) = rw (pow-succ' 2 t) (mul_assoc 2 (2 ^ t) rest) in
    let c : BitsFrom ws k (suc left) (2 * (2 ^ t * rest)) = rw (← twice) b in
    let even : 2 * (2 ^ t * rest) % 2 ≡ 0 = omega arith in
    let clear : holds ws k ≡ false = bits-first ws k left (2 * (2 ^ t * rest)) c ∙ rw even in
    let half : 2 * (2 ^ t * rest) / 2 ≡ 2 ^ t * rest = omega arith in
    let p : Passed ws (suc k) left t rest = bits-zeros ws t (suc k) left rest (omega arith) (rw half at (bits-next ws k left (2 * (2 ^ t * rest)) c)) in
    let place : k + suc t ≡ suc k + t = omega arith in
    let fewer : suc left - suc t ≡ left - t = omega arith in
    record { is = rw (clear, place, fewer) p.is; bits = rw (place, fewer) p.bits }

-- the lines of numbers
abbrev pub lines_of : List ℕ → Bytes
lines_of ns = text_of (literal_lines ns)

-- ---- the loop over a word

-- `all` is printed from p₀ on; the bits of `rest` are still to be printed, of which the lowest is number k, and the last comes before number e
pub record InWord (ws : List ℕ) (e : ℕ) (p₀ : Printer) (all : Bytes) (p : Printer) (k rest : ℕ) : Type 0 where
  pub left : ℕ
  pub ends : k + left ≡ e
  pub bits : BitsFrom ws k left rest
  pub printing : Printing p₀ all p (lines_of (passing (holds ws) k left))

pub word_none : (ws : List ℕ) (j : ℕ) (p : Printer) → get_or ws j 0 < 2 ^ 64
    → InWord ws (64 * j + 64) p (lines_of (elements_in ws j)) p (64 * j) (get_or ws j 0)
unfolding elements_in
word_none ws j p h = record { left = 64; ends = refl; bits = bits-word ws j h; printing = printing-none p (lines_of (elements_in ws j)) }

module _ (ws : List ℕ) (e : ℕ) (p₀ : Printer) (all : Bytes) (p : Printer) (k rest : ℕ) (w : InWord ws e p₀ all p k rest) where
  -- as many bits are left as the rest needs
  bits_left : (t : ℕ) → 2 ^ t ≤ rest → t < w.left
  bits_left t h = ⊎_elim (λ b. b) (λ b. absurd (omega (arith, pow_mono {i = w.left} {j = t} b, w.bits.small))) (below_or t w.left)

  skipped : (t rest' : ℕ) → t ≤ w.left → rest ≡ 2 ^ t * rest' → InWord ws e p₀ all p (k + t) rest'
  skipped t rest' h z =
      let q : Passed ws k w.left t rest' = bits-zeros ws t k w.left rest' h (rw (← z) w.bits) in
      let now : Bytes = lines_of (passing (holds ws) k w.left) in
      record {
        left = w.left - t;
        ends = omega (arith, w.ends);
        bits = q.bits;
        printing = printing_as p₀ all p now w.printing (lines_of (passing (holds ws) (k + t) (w.left - t))) (ap lines_of q.is);
      }

  pub word_eight : 0 < rest → rest % 256 ≡ 0 → InWord ws e p₀ all p (k + 8) (rest / 256)
  word_eight h z = skipped 8 (rest / 256) (omega (arith, bits_left 8 (omega arith))) (omega arith)

  pub word_one : 0 < rest → rest % 2 ≡ 0 → InWord ws e p₀ all p (k + 1) (rest / 2)
  word_one h z = skipped 1 (rest / 2) (omega (arith, bits_left 0 h)) (omega arith)

  pub word_print : (p' : Printer) → (rest % 2 ≡ 0 → ⊥) → PrintsOn p (number_line (k ∷ []) ++ (10 ∷ [])) p' → InWord ws e p₀ all p' (k + 1) (rest / 2)
  word_print p' n q =
      let some : 0 < w.left = bits_left 0 (omega arith) in
      let m : w.left ≡ suc (w.left - 1) = omega arith in
      let b : BitsFrom ws k (suc (w.left - 1)) rest = rw m at w.bits in
      let set : holds ws k ≡ true = bits-first ws k (w.left - 1) rest b ∙ eq-eqb (rest % 2) 1 (omega arith) in
      let now : Bytes = lines_of (passing (holds ws) k w.left) in
      let later : List ℕ = passing (holds ws) (suc k) (w.left - 1) in
      let split : passing (holds ws) k w.left ≡ k ∷ later = ap (passing (holds ws) k) m ∙ rw set in
      record {
        left = w.left - 1;
        ends = omega (arith, w.ends);
        bits = rw (add-one k) (bits-next ws k (w.left - 1) rest b);
        printing =
            rw (add-one k)
            (printing-more p₀ all p now w.printing (number_line (k ∷ []) ++ (10 ∷ [])) (lines_of later) p' (ap lines_of split ∙ literal-first k later) q);
      }

  pub word-done : rest ≤ 0 → PrintsOn p₀ all p
  word-done h =
      let z : rest ≡ 0 = omega arith in
      let q : Passed ws k w.left w.left 0 = bits-zeros ws w.left k w.left 0 (omega arith) (rw (mul-zero (2 ^ w.left), ← z) w.bits) in
      let n : w.left - w.left ≡ 0 = omega arith in
      let none : passing (holds ws) k w.left ≡ [] = q.is ∙ rw n in
      printing-done p₀ all p (lines_of (passing (holds ws) k w.left)) w.printing (ap lines_of none)

-- ---- the loop over the words

lines_append : (ns ms : List ℕ) → lines_of (ns ++ ms) ≡ lines_of ns ++ lines_of ms
lines_append ns ms = ap text_of (map-append (λ (n : ℕ). number_line (n ∷ [])) ns ms) ∙ text_append (literal_lines ns) (literal_lines ms)

-- the elements in the words from word j on
abbrev pub elements_from : List ℕ → ℕ → List ℕ
elements_from ws j = passing (holds ws) (64 * j) (64 * (length ws - j))

module _ (ws : List ℕ) where
  set-start : elements ws ≡ elements_from ws 0
  unfolding elements
  set-start = let n : length ws - 0 ≡ length ws = omega arith in rw n

  pub set-none : (p : Printer) → Printing p (lines_of (elements ws)) p (lines_of (elements_from ws 0))
  set-none p =
      let all : Bytes = lines_of (elements ws) in
      printing_as p all p all (printing-none p all) (lines_of (elements_from ws 0)) (ap lines_of set-start)

  module _ (j : ℕ) where
    pub set_more : j < length ws → lines_of (elements_from ws j) ≡ lines_of (elements_in ws j) ++ lines_of (elements_from ws (j + 1))
    unfolding elements_in
    set_more h =
        let n : 64 * (length ws - j) ≡ 64 + 64 * (length ws - (j + 1)) = omega arith in
        let m : 64 * j + 64 ≡ 64 * (j + 1) = omega arith in
        ap
        lines_of
        (ap (passing (holds ws) (64 * j)) n
        ∙ passing_append (holds ws) (64 * j) 64 (64 * (length ws - (j + 1)))
        ∙ ap (λ (i : ℕ). passing (holds ws) (64 * j) 64 ++ passing (holds ws) i (64 * (length ws - (j + 1)))) m)
        ∙ lines_append (passing (holds ws) (64 * j) 64) (elements_from ws (j + 1))
