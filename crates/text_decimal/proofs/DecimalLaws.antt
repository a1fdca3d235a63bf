-- The digits of a number of any size: how they come about, how many they are, and which bytes they are.
use Prim.Native.Nat.{ℕ, zero, suc, max, ◌+◌, ◌*◌, ◌/◌, ◌%◌, ◌^◌, ◌≤◌, ◌<◌}
use mathlib.Core.Path.{◌≡◌, refl, ap, ◌∙◌}
use mathlib.Core.List.{[], ◌∷◌, ◌++◌}
use mathlib.Core.Bool.{Bool, true, false}
use native.Mathlib.Nat.{pow-succ'}
use native.Mathlib.Omega.{arith}
use borrow.Author.Tests.{ltb-true, ltb-false, lt-ltb, le-ltb}
use lib.Dec.{ltb}
use lib.ListN.{length, length-append}
use Rattle.lists.specs.Parts.{Bytes}
use Rattle.lists.specs.Tests.{all}
use Rattle.lists.proofs.TestLaws.{all_append}
use Rattle.text_decimal.specs.Decimal.{one_or_more, digits_in, decimal}

-- ---- one digit, and one digit more

-- all numbers of digits that are enough give the same digits
digits-enough : (k m n : ℕ) → n ≤ k → n ≤ m → digits_in k n ≡ digits_in m n
digits-enough zero zero n h l = refl
digits-enough zero (suc m) n h l =
    let z : n ≡ 0 = omega arith in
    rw z
digits-enough (suc k) zero n h l =
    let z : n ≡ 0 = omega arith in
    rw z
digits-enough (suc k) (suc m) n h l = by_size (ltb n 10) refl (digits-enough k m (n / 10))
  where
    by_size :
        (q : Bool) → ltb n 10 ≡ q → (n / 10 ≤ k → n / 10 ≤ m → digits_in k (n / 10) ≡ digits_in m (n / 10))
        → one_or_more q n (digits_in k) ≡ one_or_more q n (digits_in m)
    by_size true e same = refl
    by_size false e same =
        let big : 10 ≤ n = ltb-false n 10 e in
        ap (λ (ds : Bytes). ds ++ ((48 + n % 10) ∷ [])) (same (omega arith) (omega arith))

pub decimal_one : (n : ℕ) → n < 10 → decimal n ≡ (48 + n) ∷ []
unfolding decimal
decimal_one zero h = refl
decimal_one (suc n) h = rw (lt-ltb (suc n) 10 h)

pub decimal-more : (n : ℕ) → 10 ≤ n → decimal n ≡ decimal (n / 10) ++ ((48 + n % 10) ∷ [])
unfolding decimal
decimal-more zero h = absurd (omega arith)
decimal-more (suc n) h =
    rw (le-ltb (suc n) 10 h) (ap (λ (ds : Bytes). ds ++ ((48 + suc n % 10) ∷ [])) (digits-enough n (suc n / 10) (suc n / 10) (omega arith) (omega arith)))

-- what holds of one digit, and of a number where it holds of the number without its last digit, holds of every number
module _ (P : ℕ → Type 0) (one : (n : ℕ) → n < 10 → P n) (more : (n : ℕ) → 10 ≤ n → P (n / 10) → P n) where
  by_tens_to : (k n : ℕ) → n ≤ k → P n
  by_tens_to zero n h = one n (omega arith)
  by_tens_to (suc k) n h = by_size (ltb n 10) refl (by_tens_to k (n / 10))
    where
      by_size : (q : Bool) → ltb n 10 ≡ q → (n / 10 ≤ k → P (n / 10)) → P n
      by_size true e rest = one n (ltb-true n 10 e)
      by_size false e rest =
          let big : 10 ≤ n = ltb-false n 10 e in
          more n big (rest (omega arith))

  pub by_tens : (n : ℕ) → P n
  by_tens n = by_tens_to n n (omega arith)

-- ---- how many

pub length_one : (n : ℕ) → n < 10 → length (decimal n) ≡ 1
length_one n h = rw (decimal_one n h)

pub length_more : (n : ℕ) → 10 ≤ n → length (decimal n) ≡ length (decimal (n / 10)) + 1
length_more n h = rw (decimal-more n h) (length-append (decimal (n / 10)) ((48 + n % 10) ∷ []))

pub decimal-some : (n : ℕ) → 0 < length (decimal n)
decimal-some = by_tens (λ (n : ℕ). 0 < length (decimal n)) (λ n h. omega (arith, length_one n h)) (λ n h l. omega (arith, length_more n h))

pub decimal-not-empty : (n : ℕ) → decimal n ≡ [] → ⊥
decimal-not-empty n e = omega (arith, decimal-some n, ap length e)

-- k digits are enough below 10^k
pub decimal-length_le : (k n : ℕ) → 0 < k → n < 10 ^ k → length (decimal n) ≤ k
decimal-length_le zero n z h = absurd (omega arith)
decimal-length_le (suc zero) n z h = omega (arith, length_one n (omega arith))
decimal-length_le (suc (suc k)) n z h = by_size (ltb n 10) refl (decimal-length_le (suc k) (n / 10) (omega arith))
  where
    by_size : (q : Bool) → ltb n 10 ≡ q → (n / 10 < 10 ^ suc k → length (decimal (n / 10)) ≤ suc k) → length (decimal n) ≤ suc (suc k)
    by_size true e rest = omega (arith, length_one n (ltb-true n 10 e))
    by_size false e rest = omega (arith, length_more n (ltb-false n 10 e), rest (omega arith))

pub decimal-length-word : (n : ℕ) → n < 2 ^ 64 → length (decimal n) ≤ 20
decimal-length-word n h = decimal-length_le 20 n (omega arith) (omega arith)

ten_pos : (k : ℕ) → 0 < 10 ^ k
ten_pos zero = omega arith
ten_pos (suc k) = rw (pow-succ' 10 k) (omega (arith, ten_pos k))

-- more than k digits from 10^k on
digits-over : (k n : ℕ) → 10 ^ k ≤ n → k < length (decimal n)
digits-over zero n h = decimal-some n
digits-over (suc k) n h =
    let p : 10 * 10 ^ k ≤ n = rw (pow-succ' 10 k) at h in
    omega (arith, digits-over k (n / 10) (omega arith), length_more n (omega (arith, ten_pos k)))

pub digits_are : (n k : ℕ) → 10 ^ k ≤ n → n < 10 ^ suc k → suc k ≡ length (decimal n)
digits_are n k h l = omega (arith, digits-over k n h, decimal-length_le (suc k) n (omega arith) l)

-- the largest power of ten that is not above n, or above 1
pub digits-counted : (n m k : ℕ) → m ≡ max n 1 → 10 ^ k ≤ m → m < 10 * 10 ^ k → k + 1 ≡ length (decimal n)
digits-counted n m k e h l = by_zero n e
  where
    there : suc k ≡ length (decimal m)
    there = digits_are m k h (rw (pow-succ' 10 k) l)

    by_zero : (j : ℕ) → m ≡ max j 1 → k + 1 ≡ length (decimal j)
    by_zero zero q = omega (arith, length_one 0 (omega arith), length_one m (omega arith), there)
    by_zero (suc j) q = let same : m ≡ suc j = omega arith in omega (arith, there, ap (λ (x : ℕ). length (decimal x)) same)

-- ---- which bytes

-- a test that the bytes 48 to 57 pass is passed by all digits
pub decimal-all : (p : ℕ → Bool) → ((b : ℕ) → 48 ≤ b → b ≤ 57 → p b ≡ true) → (n : ℕ) → all p (decimal n) ≡ true
decimal-all p passed =
    by_tens
    (λ (n : ℕ). all p (decimal n) ≡ true)
    (λ n h. rw (decimal_one n h, passed (48 + n) (omega arith) (omega arith)))
    (λ n h l. rw (decimal-more n h, all_append p (decimal (n / 10)) ((48 + n % 10) ∷ []), l, passed (48 + n % 10) (omega arith) (omega arith)))

-- the first digit of a number above 0 is not 0
pub record Lead (bs : Bytes) : Type 0 where
  pub first : ℕ
  pub others : Bytes
  pub split : bs ≡ first ∷ others
  pub above : 48 < first
  pub digit : first ≤ 57

pub decimal-lead : (n : ℕ) → 0 < n → Lead (decimal n)
decimal-lead =
    by_tens
    (λ (n : ℕ). 0 < n → Lead (decimal n))
    (λ n h z. record { first = 48 + n; others = []; split = decimal_one n h; above = omega arith; digit = omega arith })
    (λ n h rest z.
    let r = rest (omega arith) in
    record {
      first = r.first;
      others = r.others ++ ((48 + n % 10) ∷ []);
      split = decimal-more n h ∙ rw r.split;
      above = r.above;
      digit = r.digit;
    })

pub decimal-zero : decimal 0 ≡ 48 ∷ []
decimal-zero = decimal_one 0 (omega arith)
