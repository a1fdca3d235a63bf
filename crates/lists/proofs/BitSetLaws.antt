-- Laws of `holds` and `with_bit`: sets of numbers kept as bits, 64 in each word.
use Prim.Native.Nat.{ℕ, suc, ◌+◌, ◌-◌, ◌*◌, ◌/◌, ◌%◌, ◌^◌, ◌≤◌, ◌<◌}
use mathlib.Core.Path.{◌≡◌, refl, sym, ap, ◌∙◌}
use mathlib.Core.Bool.{Bool, true, false, not, ◌||◌, or-true, or-false}
use mathlib.Core.List.{List}
use mathlib.Core.Logic.{⊎_elim}
use native.Mathlib.Decide.{ℕ_discrete}
use native.Mathlib.Nat.{one-mul, zero-div, div-eq_of_lt, pow-succ'}
use native.Mathlib.Omega.{arith}
use borrow.Author.Tests.{eqb-true, eqb-false, eq-eqb, ne_eqb}
use lib.Bits.{bit_or, or_shr}
use lib.Dec.{eqb}
use lib.ListN.{length, get_or, length-set, get_or-eq_default}
use lib.Pow.{pow-lt, pow-add, shl-shr}
use lib.Seq.{set_out, get_or-set_same, get_or-set_other}
use Rattle.lists.specs.Bits.{odd}
use Rattle.lists.specs.Parts.{zeros}
use Rattle.lists.specs.Sets.{holds, with_bit}
use Rattle.lists.proofs.BitLaws.{power_word, odd_or}
use Rattle.lists.proofs.BoolLaws.{below_or}
use Rattle.lists.proofs.ZeroLaws.{zeros-at}

even_odd : (x : ℕ) → eqb (x % 2) 0 ≡ not (odd x)
even_odd x = go (odd x) refl
  where
    go : (b : Bool) → odd x ≡ b → eqb (x % 2) 0 ≡ not b
    go true e = let h : x % 2 ≡ 1 = eqb-true (x % 2) 1 e in ne_eqb (x % 2) 0 (omega arith)
    go false e = let h : x % 2 ≡ 1 → ⊥ = eqb-false (x % 2) 1 e in eq-eqb (x % 2) 0 (omega arith)

module _ (ws : List ℕ) (k : ℕ) where
  pub holds_outside : length ws ≤ k / 64 → false ≡ holds ws k
  unfolding holds
  holds_outside h = rw (get_or-eq_default ws 0 h, zero-div (2 ^ (k % 64)))

  pub mark_outside : length ws ≤ k / 64 → ws ≡ with_bit ws k
  unfolding with_bit
  mark_outside h = sym (set_out ws (k / 64) (bit_or (get_or ws (k / 64) 0) (2 ^ (k % 64))) h)

  pub free_outside : length ws ≤ k / 64 → true ≡ not (holds ws k)
  free_outside h = ap not (holds_outside h)

  -- what the code tests
  pub free-bit : eqb (get_or ws (k / 64) 0 / 2 ^ (k % 64) % 2) 0 ≡ not (holds ws k)
  unfolding holds
  free-bit = even_odd (get_or ws (k / 64) 0 / 2 ^ (k % 64))

  pub with_length : length (with_bit ws k) ≡ length ws
  unfolding with_bit
  with_length = length-set ws (k / 64) (bit_or (get_or ws (k / 64) 0) (2 ^ (k % 64)))

-- what the code shifts 1 to
pub shifted_one : (k : ℕ) → 1 * 2 ^ (k % 64) % 18446744073709551616 ≡ 2 ^ (k % 64)
shifted_one k = power_word (k % 64) (omega arith)

or_bit : (w v q : ℕ) → odd (bit_or w v / 2 ^ q) ≡ (odd (w / 2 ^ q) || odd (v / 2 ^ q))
or_bit w v q = rw (or_shr w v q) (odd_or (w / 2 ^ q) (v / 2 ^ q))

-- the bits of 2 ^ p
power_same : (p : ℕ) → odd (2 ^ p / 2 ^ p) ≡ true
power_same p = let e : 2 ^ p / 2 ^ p ≡ 1 = rw one-mul at (shl-shr 1 p) in rw e

power_above : (q m : ℕ) → odd (2 ^ (suc m + q) / 2 ^ q) ≡ false
power_above q m =
    let e : 2 * 2 ^ m % 2 ≡ 0 = omega arith in
    rw (pow-add 2 (suc m) q, shl-shr (2 ^ suc m) q, pow-succ' 2 m, e)

power_other : (p q : ℕ) → (q ≡ p → ⊥) → odd (2 ^ p / 2 ^ q) ≡ false
power_other p q h =
    ⊎_elim
    (λ k. ap (λ (x : ℕ). odd (2 ^ x / 2 ^ q)) (omega arith) ∙ power_above q (p - q - 1))
    (λ k. rw (div-eq_of_lt (pow-lt {i = p} {j = q} (omega arith))))
    (below_or q p)

module _ (ws : List ℕ) (k : ℕ) where
  -- the bits of the word that was stored
  stored : (j : ℕ) → k / 64 < length ws → j / 64 ≡ k / 64 → holds (with_bit ws k) j ≡ (holds ws j || odd (2 ^ (k % 64) / 2 ^ (j % 64)))
  unfolding holds with_bit
  stored j h e =
      rw (e, get_or-set_same ws (k / 64) (bit_or (get_or ws (k / 64) 0) (2 ^ (k % 64))) 0 h) (or_bit (get_or ws (k / 64) 0) (2 ^ (k % 64)) (j % 64))

  pub with_same : k / 64 < length ws → holds (with_bit ws k) k ≡ true
  with_same h = stored k h refl ∙ rw (power_same (k % 64)) (or-true (holds ws k))

  other_word : (j : ℕ) → (j / 64 ≡ k / 64 → ⊥) → holds (with_bit ws k) j ≡ holds ws j
  unfolding holds with_bit
  other_word j n = rw (get_or-set_other ws (k / 64) (j / 64) (bit_or (get_or ws (k / 64) 0) (2 ^ (k % 64))) 0 n)

  pub with_other : (j : ℕ) → (j ≡ k → ⊥) → holds (with_bit ws k) j ≡ holds ws j
  with_other j h = ⊎_elim (λ b. go b (ℕ_discrete (j / 64) (k / 64))) (λ b. rw (← mark_outside ws k b)) (below_or (k / 64) (length ws))
    where
      go : k / 64 < length ws → Dec (j / 64 ≡ k / 64) → holds (with_bit ws k) j ≡ holds ws j
      go b (yes e) = stored j b e ∙ rw (power_other (k % 64) (j % 64) (λ q. h (omega arith))) (or-false (holds ws j))
      go b (no n) = other_word j n

pub holds-zeros : (n j : ℕ) → holds (zeros n) j ≡ false
unfolding holds
holds-zeros n j = rw (zeros-at n (j / 64), zero-div (2 ^ (j % 64)))
