-- Laws of `number_of`: its cases for the code that reads numbers, and what callers may rely on.
use Rattle.std.specs.Prelude.{Option, Some, None}
use Prim.Native.Nat.{ℕ, ◌^◌, ◌≤◌, ◌<◌}
use mathlib.Core.Path.{◌≡◌, refl, ap, ◌∙◌}
use mathlib.Core.Bool.{Bool, true, false, cond, ◌&&◌}
use mathlib.Core.List.{[], ◌∷◌}
use native.Mathlib.Omega.{arith}
use borrow.Author.Tests.{ne_eqb, lt-ltb, ltb-true, leb-true}
use lib.Dec.{leb, ltb}
use lib.ListN.{length}
use Rattle.lists.specs.Parts.{Bytes}
use Rattle.lists.specs.Tests.{all}
use Rattle.lists.proofs.BoolLaws.{and_left, and_right}
use Rattle.text.specs.declared.Reader.{Reader}
use Rattle.text.specs.declared.Reader.TheVariants.{Transition, Witness}
use Rattle.text.specs.Numbers.{is_digit, tenfold, digits_after, digits_of, unsigned, long_zero, number_of}

-- the transition reader
pub usize-digits : (f g : Bytes) (r : Option ℕ) → g ≡ unsigned f → r ≡ digits_of g → r ≡ number_of Transition f
unfolding number_of
usize-digits f g r k e = e ∙ ap digits_of k

-- the witness reader: a field of at most one byte, a longer one that begins with 0, another
module _ (f : Bytes) (z : Bool) (q : z ≡ long_zero f) where
  pub number-zero : z ≡ true → None ≡ number_of Witness f
  unfolding number_of
  number-zero h = rw (← q, h)

  pub number_long : z ≡ false → (r : Option ℕ) → r ≡ number_of Transition f → r ≡ number_of Witness f
  unfolding number_of
  number_long h r e = rw (← q, h) e

pub number_transition : (reader : Reader) (f : Bytes) (r : Option ℕ) → reader ≡ Transition → r ≡ number_of Transition f → r ≡ number_of reader f
number_transition reader f r k e = rw k e

pub number-witness : (reader : Reader) (f : Bytes) (r : Option ℕ) → reader ≡ Witness → r ≡ number_of Witness f → r ≡ number_of reader f
number-witness reader f r k e = rw k e

-- digits alone, with no zero in front of others (R1.3): both readers take them
digits-plain : (f : Bytes) → 0 < length f → all is_digit f ≡ true → tenfold 0 f < 2 ^ 64 → digits_of (unsigned f) ≡ Some (tenfold 0 f)
digits-plain [] h d s = absurd (omega arith)
digits-plain (b ∷ bs) h d s =
    let low : 48 ≤ b = leb-true 48 b (and_left (leb 48 b) (leb b 57) (and_left (is_digit b) (all is_digit bs) d)) in
    rw (ne_eqb b 43 (λ e. omega arith)) (rw (d, lt-ltb (tenfold 0 (b ∷ bs)) (2 ^ 64) s))

pub number-plain : (reader : Reader) (f : Bytes) → long_zero f ≡ false → 0 < length f → all is_digit f ≡ true → tenfold 0 f < 2 ^ 64
    → number_of reader f ≡ Some (tenfold 0 f)
unfolding number_of
number-plain Transition f z h d s = digits-plain f h d s
number-plain Witness f z h d s = rw z (digits-plain f h d s)

-- ---- for callers, who never open `number_of`

after-below : (v n : ℕ) (bs : Bytes) → digits_after n bs ≡ Some v → v < 2 ^ 64
after-below v n bs e = go (all is_digit bs && ltb (tenfold n bs) (2 ^ 64)) refl e
  where
    go : (q : Bool) → (all is_digit bs && ltb (tenfold n bs) (2 ^ 64)) ≡ q → cond q (Some (tenfold n bs)) None ≡ Some v → v < 2 ^ 64
    go true h k =
        let s : tenfold n bs ≡ v = cc in
        rw (← s) (ltb-true (tenfold n bs) (2 ^ 64) (and_right (all is_digit bs) (ltb (tenfold n bs) (2 ^ 64)) h))
    go false h k = let never : ◌≡◌ {A = ℕ} 0 1 = cc in absurd (omega arith)

digits-below : (v : ℕ) (f : Bytes) → digits_of f ≡ Some v → v < 2 ^ 64
digits-below v [] e = let never : ◌≡◌ {A = ℕ} 0 1 = cc in absurd (omega arith)
digits-below v (b ∷ bs) e = after-below v 0 (b ∷ bs) e

-- what the witness reader takes, the transition reader takes for the same number
pub number-both : (f : Bytes) (v : ℕ) → number_of Witness f ≡ Some v → number_of Transition f ≡ Some v
unfolding number_of
number-both f v e = go (long_zero f) e
  where
    go : (q : Bool) → cond q None (digits_of (unsigned f)) ≡ Some v → digits_of (unsigned f) ≡ Some v
    go true k = let never : ◌≡◌ {A = ℕ} 0 1 = cc in absurd (omega arith)
    go false k = k

-- R1.1: a number that is read is less than 2^64
pub number-below : (reader : Reader) (f : Bytes) (v : ℕ) → number_of reader f ≡ Some v → v < 2 ^ 64
unfolding number_of
number-below Transition f v e = digits-below v (unsigned f) e
number-below Witness f v e = digits-below v (unsigned f) (number-both f v e)

-- a field that begins with a digit from 1 on is read as its digits, by both readers
pub number_digits : (reader : Reader) (b : ℕ) (bs : Bytes) → 48 < b → b ≤ 57 → number_of reader (b ∷ bs) ≡ digits_after 0 (b ∷ bs)
unfolding number_of
number_digits Transition b bs h k = simp (ne_eqb b 43 (λ e. omega arith))
number_digits Witness b [] h k = simp (ne_eqb b 43 (λ e. omega arith))
number_digits Witness b (c ∷ bs) h k = simp (ne_eqb b 48 (λ e. omega arith), ne_eqb b 43 (λ e. omega arith))

-- `0` alone is 0
pub number_of_zero : (reader : Reader) → number_of reader (48 ∷ []) ≡ Some 0
unfolding number_of
number_of_zero Transition = refl
number_of_zero Witness = refl
