-- Lists of zeros of any length, and a slice that is cleared word by word.
use Prim.Native.Nat.{ℕ, zero, suc, ◌+◌, ◌≤◌, ◌<◌}
use mathlib.Core.Path.{◌≡◌, refl, sym, ap, ◌∙◌}
use mathlib.Core.List.{List, [], ◌∷◌, ◌++◌, append-nil}
use native.Mathlib.Omega.{arith}
use borrow.Author.Fill.{fill_more}
use lib.ListN.{length, get_or, take, drop, set, length-set, length-replicate, drop_of_length-le}
use Rattle.lists.specs.Parts.{front, zeros}

pub zeros-length : (n : ℕ) → length (zeros n) ≡ n
zeros-length n = length-replicate n 0

pub zeros-at : (n k : ℕ) → ◌≡◌ {A = ℕ} (get_or (zeros n) k 0) 0
zeros-at zero k = refl
zeros-at (suc n) zero = refl
zeros-at (suc n) (suc k) = zeros-at n k

pub zeros-take : (k n : ℕ) → k ≤ n → take k (zeros n) ≡ zeros k
zeros-take zero n h = refl
zeros-take (suc k) zero h = absurd (omega arith)
zeros-take (suc k) (suc n) h = ap (λ (l : List ℕ). 0 ∷ l) (zeros-take k n (omega arith))

-- the words w₀ with the first i cleared
pub record Clearing (w₀ w : List ℕ) (i : ℕ) : Type 0 where
  pub is : w ≡ zeros i ++ drop i w₀
  pub passed : i ≤ length w₀
  pub same : length w ≡ length w₀

pub clearing-none : (w : List ℕ) → Clearing w w 0
clearing-none w = record { is = refl; passed = omega arith; same = refl }

module _ (w₀ w : List ℕ) (i : ℕ) (k : Clearing w₀ w i) where
  pub clearing-more : i < length w → Clearing w₀ (set w i 0) (i + 1)
  clearing-more h =
      record {
        is = ap (λ (x : List ℕ). set x i 0) k.is ∙ fill_more i 0 w₀ (omega arith);
        passed = omega arith;
        same = simp length-set k.same;
      }

  pub clearing-done : length w ≤ i → w ≡ zeros (length w₀)
  clearing-done h =
      let n : i ≡ length w₀ = omega arith in
      k.is ∙ rw (drop_of_length-le w₀ {i = i} (omega arith), append-nil, n)

-- a work slice that is all 0 and as long as another
pub zeros-kept : (w : List ℕ) (n k : ℕ) → w ≡ zeros n → n ≡ k → w ≡ zeros k
zeros-kept w n k e q = e ∙ ap zeros q

pub zeros_own : (w : List ℕ) (n : ℕ) → w ≡ zeros n → w ≡ zeros (length w)
zeros_own w n e = zeros-kept w n (length w) e (sym (ap length e ∙ zeros-length n))

-- what stands in front of zeros, with 0 where there is nothing
pub front-zeros : (n : ℕ) (c : List ℕ) (k : ℕ) → length c ≤ n → get_or (front (zeros n) c) k 0 ≡ get_or c k 0
front-zeros n [] k h = zeros-at n k
front-zeros zero (x ∷ c) k h = absurd (omega arith)
front-zeros (suc n) (x ∷ c) zero h = refl
front-zeros (suc n) (x ∷ c) (suc k) h = front-zeros n c k (omega arith)
