-- `span` at a position of a list: one step of a loop that runs while a byte passes a test; and where it ends.
use Prim.Native.Nat.{ℕ, suc, ◌+◌, ◌≤◌, ◌<◌}
use mathlib.Core.Path.{◌≡◌, refl, ap}
use mathlib.Core.List.{List, [], ◌∷◌, ◌++◌}
use mathlib.Core.Bool.{Bool, true, false, cond, ◌&&◌}
use native.Mathlib.Numerals.{add-one}
use native.Mathlib.Omega.{arith}
use lib.Dec.{leb}
use borrow.Author.Tests.{le-leb, lt-leb, ne_eqb}
use lib.ListN.{take, length, get_or, drop, drop_of_length-le, length-drop}
use lib.Seq.{drop-cons}
use Rattle.lists.specs.Tests.{all}
use Rattle.lists.proofs.BoolLaws.{and_left, and_right}
use Rattle.scan.specs.Spans.{span, in_line, between}

le_at : (q : Bool) (m n : ℕ) → m ≤ n → cond q (suc m) 0 ≤ suc n
le_at true m n h = omega arith
le_at false m n h = omega arith

pub span_le : (p : ℕ → Bool) (t : List ℕ) → span p t ≤ length t
span_le p [] = omega arith
span_le p (b ∷ bs) = le_at (p b) (span p bs) (length bs) (span_le p bs)

module _ (p : ℕ → Bool) (s : List ℕ) (i : ℕ) where
  pub span_in : i < length s → p (get_or s i 0) ≡ true → i + span p (drop i s) ≡ i + 1 + span p (drop (i + 1) s)
  span_in h e = rw (add-one, drop-cons s i 0 h) (simp e (omega arith))

  pub span_out : i < length s → p (get_or s i 0) ≡ false → i + span p (drop i s) ≡ i
  span_out h e = rw (drop-cons s i 0 h) (simp e (omega arith))

  pub span-end : length s ≤ i → i + span p (drop i s) ≡ i
  span-end h = rw (drop_of_length-le s h) (omega arith)

-- what a test of the code says of `in_line`
pub line-goes : (b : ℕ) → (b ≡ 10 → ⊥) → in_line b ≡ true
line-goes b h = simp (ne_eqb b 10 h)

-- and of `between`
module _ (low high b : ℕ) where
  pub between_in : low ≤ b → b ≤ high → between low high b ≡ true
  between_in h k = simp (le-leb low b h, le-leb b high k)

  pub between-low : b < low → between low high b ≡ false
  between-low h = simp (lt-leb low b h)

  pub between_high : high < b → between low high b ≡ false
  between_high h = high_out (leb low b)
    where
      high_out : (q : Bool) → (q && leb b high) ≡ false
      high_out true = lt-leb b high h
      high_out false = refl

-- the byte at which a span ends does not satisfy p
stop-at : (p : ℕ → Bool) (b : ℕ) (bs : List ℕ) → (span p bs < length bs → p (get_or bs (span p bs) 0) ≡ false)
    → (q : Bool) → p b ≡ q → span p (b ∷ bs) < suc (length bs) → p (get_or (b ∷ bs) (span p (b ∷ bs)) 0) ≡ false
stop-at p b bs ih true e = simp e (λ h. ih (omega arith))
stop-at p b bs ih false e = simp e (λ h. refl)

pub span_outside : (p : ℕ → Bool) (t : List ℕ) → span p t < length t → p (get_or t (span p t) 0) ≡ false
span_outside p [] h = absurd (omega arith)
span_outside p (b ∷ bs) h = stop-at p b bs (span_outside p bs) (p b) refl h

module _ (p : ℕ → Bool) (s : List ℕ) (at : ℕ) where
  pub span-within : at ≤ length s → at + span p (drop at s) ≤ length s
  span-within h = omega (arith, span_le p (drop at s), length-drop at s)

-- all bytes of a span pass
all-at : (p : ℕ → Bool) (b : ℕ) (bs : List ℕ) → all p (take (span p bs) bs) ≡ true → (q : Bool) → p b ≡ q → all p (take (cond q (suc (span p bs)) 0) (b ∷ bs)) ≡ true
all-at p b bs ih true e = rw e ih
all-at p b bs ih false e = refl

pub span-passes : (p : ℕ → Bool) (t : List ℕ) → all p (take (span p t) t) ≡ true
span-passes p [] = refl
span-passes p (b ∷ bs) = all-at p b bs (span-passes p bs) (p b) refl

-- bytes that all pass, in front of one that does not
pub span-front : (p : ℕ → Bool) (f : List ℕ) (b : ℕ) (rest : List ℕ) → all p f ≡ true → p b ≡ false → span p (f ++ b ∷ rest) ≡ length f
span-front p [] b rest h e = rw e
span-front p (x ∷ f) b rest h e = rw (and_left (p x) (all p f) h) (ap suc (span-front p f b rest (and_right (p x) (all p f) h) e))
