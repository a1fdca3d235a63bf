-- The digits of 0 to 99, as a table has them.
use Prim.Native.Nat.{ℕ, zero, suc, ◌+◌, ◌*◌, ◌/◌, ◌%◌, ◌<◌}
use mathlib.Core.Path.{◌≡◌, refl, ap, ◌∙◌}
use native.Mathlib.Nat.{add-zero}
use native.Mathlib.Omega.{arith}
use lib.ListN.{length, get_or}
use Rattle.lists.specs.Parts.{Bytes}
use Rattle.text_print.specs.Inner.DigitPairs.{pairs_from, digit_pairs}

tens_at : (t n i : ℕ) → i < n → get_or (pairs_from t n) (2 * i) 0 ≡ 48 + (t + i) / 10
tens_at t zero i h = absurd (omega arith)
tens_at t (suc n) zero h = rw (add-zero t)
tens_at t (suc n) (suc i) h =
    let e : 2 * suc i ≡ suc (suc (2 * i)) = omega arith in
    let f : t + suc i ≡ suc t + i = omega arith in
    rw (e, f) (tens_at (suc t) n i (omega arith))

ones_at : (t n i : ℕ) → i < n → get_or (pairs_from t n) (2 * i + 1) 0 ≡ 48 + (t + i) % 10
ones_at t zero i h = absurd (omega arith)
ones_at t (suc n) zero h = rw (add-zero t)
ones_at t (suc n) (suc i) h =
    let e : 2 * suc i + 1 ≡ suc (suc (2 * i + 1)) = omega arith in
    let f : t + suc i ≡ suc t + i = omega arith in
    rw (e, f) (ones_at (suc t) n i (omega arith))

pairs-from-length : (t n : ℕ) → length (pairs_from t n) ≡ 2 * n
pairs-from-length t zero = refl
pairs-from-length t (suc n) = omega (arith, pairs-from-length (suc t) n)

-- a table at hand
module _ (table : Bytes) (is : table ≡ digit_pairs) where
  pub pairs-length : length table ≡ 200
  unfolding digit_pairs
  pairs-length = ap length is ∙ pairs-from-length 0 100

  module _ (i : ℕ) (h : i < 100) where
    zero-first : 0 + i ≡ i
    zero-first = omega arith

    pub tens_in : get_or table (2 * i) 0 ≡ 48 + i / 10
    unfolding digit_pairs
    tens_in = ap (λ (l : Bytes). get_or l (2 * i) 0) is ∙ tens_at 0 100 i h ∙ ap (λ (k : ℕ). 48 + k / 10) zero-first

    pub ones_in : get_or table (2 * i + 1) 0 ≡ 48 + i % 10
    unfolding digit_pairs
    ones_in = ap (λ (l : Bytes). get_or l (2 * i + 1) 0) is ∙ ones_at 0 100 i h ∙ ap (λ (k : ℕ). 48 + k % 10) zero-first
