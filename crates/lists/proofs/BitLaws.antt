-- Laws of `odd`, `bits`, `bit` and `packed`, and the loops over the bits of a word.
use Prim.Native.Nat.{ℕ, zero, suc, ◌+◌, ◌-◌, ◌*◌, ◌/◌, ◌%◌, ◌^◌, ◌≤◌, ◌<◌, max}
use mathlib.Core.Path.{◌≡◌, refl, sym, ap, ap₂, ◌∙◌}
use mathlib.Core.Bool.{Bool, true, false, xor, ◌&&◌, ◌||◌}
use mathlib.Core.List.{List, [], ◌∷◌, ◌++◌}
use mathlib.Core.Logic.{⊎_elim}
use native.Mathlib.Nat.{two-pow-succ, pow-succ', div-div-eq-div-mul, div-one, div-eq_of_lt, mod-lt, suc-add, mul_assoc, lt_of_lt_of_le, one-mul, mod-eq_of_lt}
use native.Mathlib.Omega.{arith}
use borrow.Author.Tests.{eqb-true, eqb-false, ltb-true, ltb-false, lt-ltb, le-ltb}
use lib.Bits.{bit_or, or_step}
use lib.Dec.{eqb, ltb}
use lib.ListN.{length, get_or, take, drop}
use lib.Pow.{pow_pos, pow_mono, pow-lt, pow-add, split}
use Rattle.lists.specs.Bits.{odd, bits, bit, packed}
use Rattle.lists.proofs.BoolLaws.{below_or}

pub odd-bit : (x : ℕ) → bit (odd x) ≡ x % 2
odd-bit x = go (odd x) refl
  where
    go : (b : Bool) → odd x ≡ b → bit b ≡ x % 2
    go true e = sym (eqb-true (x % 2) 1 e)
    go false e = let n : x % 2 ≡ 1 → ⊥ = eqb-false (x % 2) 1 e in omega arith

pub bit-odd : (b : Bool) → odd (bit b) ≡ b
bit-odd true = refl
bit-odd false = refl

pub bit_lt : (b : Bool) → bit b < 2
bit_lt true = omega arith
bit_lt false = omega arith

-- a product of bits is their conjunction
pub product_odd : (a b : Bool) → odd (bit a * bit b) ≡ (a && b)
product_odd true true = refl
product_odd true false = refl
product_odd false true = refl
product_odd false false = refl

pub product_lt : (a b : Bool) (x y : ℕ) → x ≡ bit a → y ≡ bit b → x * y < 2
product_lt true true x y e f = rw (e, f) (omega arith)
product_lt true false x y e f = rw (e, f) (omega arith)
product_lt false true x y e f = rw (e, f) (omega arith)
product_lt false false x y e f = rw (e, f) (omega arith)

-- the value of a literal: one bit, and another that says whether to turn it round
pub odd-xor : (x y : ℕ) → odd ((x % 2 + y % 2) % 2) ≡ xor (odd x) (odd y)
unfolding xor
odd-xor x y = ap₂ (λ (a b : ℕ). odd ((a + b) % 2)) (sym (odd-bit x)) (sym (odd-bit y)) ∙ go (odd x) (odd y)
  where
    go : (a b : Bool) → odd ((bit a + bit b) % 2) ≡ xor a b
    go true true = refl
    go true false = refl
    go false true = refl
    go false false = refl

pub odd_or : (a b : ℕ) → odd (bit_or a b) ≡ (odd a || odd b)
odd_or a b =
    let m : bit_or a b % 2 ≡ max (a % 2) (b % 2) = omega (arith, or_step a b) in
    rw m (ap₂ (λ (x y : ℕ). eqb (max x y) 1) (sym (odd-bit a)) (sym (odd-bit b)) ∙ go (odd a) (odd b))
  where
    go : (a b : Bool) → eqb (max (bit a) (bit b)) 1 ≡ (a || b)
    go true true = refl
    go true false = refl
    go false true = refl
    go false false = refl

pub bits-length : (n x : ℕ) → length (bits n x) ≡ n
bits-length zero x = refl
bits-length (suc n) x = ap suc (bits-length n (x / 2))

pub bits_at : (n x k : ℕ) → k < n → get_or (bits n x) k false ≡ odd (x / 2 ^ k)
bits_at zero x k h = absurd (omega arith)
bits_at (suc n) x zero h = rw (div-one x)
bits_at (suc n) x (suc k) h = bits_at n (x / 2) k (omega arith) ∙ rw (div-div-eq-div-mul x 2 (2 ^ k), ← pow-succ' 2 k)

pub bits_append : (n m x : ℕ) → bits (n + m) x ≡ bits n x ++ bits m (x / 2 ^ n)
bits_append zero m x = let e : 0 + m ≡ m = omega arith in rw (e, div-one x)
bits_append (suc n) m x = rw (suc-add n m, bits_append n m (x / 2), div-div-eq-div-mul x 2 (2 ^ n), ← pow-succ' 2 n)

-- a number in two parts, the lower one of n bits
pub bits_halves : (n m low high : ℕ) → low < 2 ^ n → bits n low ++ bits m high ≡ bits (n + m) (low + 2 ^ n * high)
bits_halves zero m low high h = let k : low < 1 = h in let a : 0 + m ≡ m = omega arith in let e : low + 1 * high ≡ high = omega arith in rw (a, e)
bits_halves (suc n) m low high h =
    let p : ℕ = 2 ^ n * high in
    let e : 2 ^ suc n * high ≡ 2 * p = rw (pow-succ' 2 n) (mul_assoc 2 (2 ^ n) high) in
    let k : low < 2 * 2 ^ n = rw (pow-succ' 2 n) at h in
    let r : (low + 2 * p) % 2 ≡ low % 2 = omega arith in
    let q : (low + 2 * p) / 2 ≡ low / 2 + p = omega arith in
    rw (e, suc-add n m, r, q, bits_halves n m (low / 2) high (omega arith))

pub packed_lt : (bs : List Bool) → packed bs < 2 ^ length bs
packed_lt [] = omega arith
packed_lt (true ∷ bs) = rw (two-pow-succ (length bs)) (omega (arith, packed_lt bs))
packed_lt (false ∷ bs) = rw (two-pow-succ (length bs)) (omega (arith, packed_lt bs))

pub bits-packed : (bs : List Bool) → bits (length bs) (packed bs) ≡ bs
bits-packed [] = refl
bits-packed (b ∷ bs) =
    let p : (bit b + 2 * packed bs) % 2 ≡ bit b % 2 = omega arith in
    let q : (bit b + 2 * packed bs) / 2 ≡ packed bs = omega (arith, bit_lt b) in
    rw (p, q, bits-packed bs, bit-odd b)

pub packed-bits : (n x : ℕ) → x < 2 ^ n → packed (bits n x) ≡ x
packed-bits zero x h = let k : x < 1 = h in omega arith
packed-bits (suc n) x h =
    let k : x < 2 ^ n + 2 ^ n = rw (two-pow-succ n) at h in
    rw (odd-bit x, packed-bits n (x / 2) (omega arith)) (omega arith)

-- a number in two parts: the n lowest bits, and the others
pub packed_halves : (n : ℕ) (bs : List Bool) → packed (take n bs) + 2 ^ n * packed (drop n bs) ≡ packed bs
packed_halves zero bs = omega arith
packed_halves (suc n) [] = omega arith
packed_halves (suc n) (b ∷ bs) = rw (← packed_halves n bs, pow-succ' 2 n, mul_assoc 2 (2 ^ n) (packed (drop n bs))) (omega arith)

pub packed-at : (bs : List Bool) (k : ℕ) → k < length bs → odd (packed bs / 2 ^ k) ≡ get_or bs k false
packed-at bs k h = sym (bits_at (length bs) (packed bs) k h) ∙ rw (bits-packed bs)

pub packed_under : (bs : List Bool) (n : ℕ) → length bs ≤ n → packed bs < 2 ^ n
packed_under bs n h = lt_of_lt_of_le (packed_lt bs) (pow_mono h)

-- x has no bit above the first n (the other way is `div-eq_of_lt` of `native.Mathlib.Nat`)
module _ (x n : ℕ) where
  pub fits : x / 2 ^ n ≡ 0 → x < 2 ^ n
  fits h =
      let s : 0 * 2 ^ n + x % 2 ^ n ≡ x = rw h at (split x n) in
      let r : x % 2 ^ n < 2 ^ n = mod-lt x (pow_pos n) in
      omega arith

  pub fits_not : (x / 2 ^ n ≡ 0 → ⊥) → 2 ^ n ≤ x
  fits_not h = ⊎_elim (λ k. absurd (h (div-eq_of_lt k))) (λ k. k) (below_or x (2 ^ n))

  -- as the code tests it
  pub fits_test : eqb (x / 2 ^ n) 0 ≡ ltb x (2 ^ n)
  fits_test = go (eqb (x / 2 ^ n) 0) refl
    where
      go : (b : Bool) → eqb (x / 2 ^ n) 0 ≡ b → b ≡ ltb x (2 ^ n)
      go true e = sym (lt-ltb x (2 ^ n) (fits (eqb-true (x / 2 ^ n) 0 e)))
      go false e = sym (le-ltb x (2 ^ n) (fits_not (eqb-false (x / 2 ^ n) 0 e)))

-- a shifted 1, as the code makes a power of two
pub power_word : (n : ℕ) → n < 64 → 1 * 2 ^ n % 18446744073709551616 ≡ 2 ^ n
power_word n h = ap (λ (x : ℕ). x % 18446744073709551616) (one-mul (2 ^ n)) ∙ mod-eq_of_lt (pow-lt {i = n} {j = 64} h)

-- two halves of 64 bits, and the bits at n or above: where n is in the high half ..
pub high_fits : (high low n : ℕ) → low < 2 ^ 64 → 64 ≤ n → ltb high (2 ^ (n - 64)) ≡ ltb (low + 2 ^ 64 * high) (2 ^ n)
high_fits high low n b h = go (ltb high (2 ^ (n - 64))) refl
  where
    e : 2 ^ n ≡ 2 ^ 64 * 2 ^ (n - 64)
    e = let k : 64 + (n - 64) ≡ n = omega arith in rw k at (pow-add 2 64 (n - 64))

    go : (t : Bool) → ltb high (2 ^ (n - 64)) ≡ t → t ≡ ltb (low + 2 ^ 64 * high) (2 ^ n)
    go true q =
        let k : high < 2 ^ (n - 64) = ltb-true high (2 ^ (n - 64)) q in
        sym (lt-ltb (low + 2 ^ 64 * high) (2 ^ n) (rw e (omega arith)))
    go false q =
        let k : 2 ^ (n - 64) ≤ high = ltb-false high (2 ^ (n - 64)) q in
        sym (le-ltb (low + 2 ^ 64 * high) (2 ^ n) (rw e (omega arith)))

-- .. and where it is in the low half
pub high_beyond : (high low n : ℕ) → n < 64 → (high ≡ 0 → ⊥) → false ≡ ltb (low + 2 ^ 64 * high) (2 ^ n)
high_beyond high low n h k =
    let p : 2 ^ n < 2 ^ 64 = pow-lt {i = n} {j = 64} h in
    let q : 0 < high = ⊎_elim (λ z. absurd (k (omega arith))) (λ z. z) (below_or high 1) in
    sym (le-ltb (low + 2 ^ 64 * high) (2 ^ n) (omega arith))
