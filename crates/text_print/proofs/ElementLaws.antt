-- The numbers that pass a test, and the elements of a set of bits.
use Prim.Native.Nat.{ℕ, zero, suc, ◌+◌, ◌*◌, ◌≤◌, ◌<◌}
use mathlib.Core.Path.{◌≡◌, refl, sym, ap, ◌∙◌}
use mathlib.Core.Bool.{Bool, true, false, cond}
use mathlib.Core.List.{List, [], ◌∷◌, ◌++◌}
use native.Mathlib.Nat.{add-zero, suc-add}
use native.Mathlib.Omega.{arith}
use borrow.Author.Tests.{eq-eqb, ne_eqb}
use lib.ListN.{length}
use Rattle.lists.specs.Parts.{zeros}
use Rattle.lists.specs.Tests.{Each}
use Rattle.lists.specs.Sets.{member, rising, holds, with_bit, put_in, set_of}
use Rattle.lists.proofs.BitSetLaws.{holds-zeros, with_same, with_other, with_length}
use Rattle.lists.proofs.DistinctLaws.{not-member}
use Rattle.lists.proofs.TestLaws.{each-so}
use Rattle.lists.proofs.SetLaws.{Order, lower, same, higher, order, put_lower, put_same, put_higher, put_new, put_old, set_snoc}
use Rattle.lists.proofs.RisingLaws.{rising_cons}
use Rattle.text_print.specs.Inner.Elements.{passing, elements}

-- ---- the numbers that pass a test

module _ (p : ℕ → Bool) where
  pub passing_append : (k n m : ℕ) → passing p k (n + m) ≡ passing p k n ++ passing p (k + n) m
  passing_append k zero m = let e : 0 + m ≡ m = omega arith in rw (e, add-zero k)
  passing_append k (suc n) m =
      let e : suc k + n ≡ k + suc n = omega arith in
      rw (suc-add n m) (go (p k) (passing_append (suc k) n m ∙ ap (λ (j : ℕ). passing p (suc k) n ++ passing p j m) e))
    where
      go :
          (b : Bool) → passing p (suc k) (n + m) ≡ passing p (suc k) n ++ passing p (k + suc n) m
          → cond b (k ∷ passing p (suc k) (n + m)) (passing p (suc k) (n + m)) ≡ cond b (k ∷ passing p (suc k) n) (passing p (suc k) n) ++ passing p (k + suc n) m
      go true rest = rw rest
      go false rest = rest

  passing-above : (k n : ℕ) → Each (λ y. k ≤ y) (passing p k n)
  passing-above k zero = tt
  passing-above k (suc n) = go (p k) (each-so (λ y. suc k ≤ y) (λ y. k ≤ y) (λ y h. omega arith) (passing p (suc k) n) (passing-above (suc k) n))
    where
      go : (b : Bool) → Each (λ y. k ≤ y) (passing p (suc k) n) → Each (λ y. k ≤ y) (cond b (k ∷ passing p (suc k) n) (passing p (suc k) n))
      go true rest = (omega arith, rest)
      go false rest = rest

  passing-rising : (k n : ℕ) → rising (passing p k n) ≡ true
  passing-rising k zero = refl
  passing-rising k (suc n) = go (p k) (passing-rising (suc k) n)
    where
      go : (b : Bool) → rising (passing p (suc k) n) ≡ true → rising (cond b (k ∷ passing p (suc k) n) (passing p (suc k) n)) ≡ true
      go true rest = rising_cons k (passing p (suc k) n) (each-so (λ y. suc k ≤ y) (λ y. k < y) (λ y h. omega arith) (passing p (suc k) n) (passing-above (suc k) n)) rest
      go false rest = rest

  passing-none : ((k : ℕ) → p k ≡ false) → (k n : ℕ) → passing p k n ≡ []
  passing-none none k zero = refl
  passing-none none k (suc n) = rw (none k) (passing-none none (suc k) n)

  not-passing : (x k n : ℕ) → x < k → member x (passing p k n) ≡ false
  not-passing x k n h = not-member x (passing p k n) (each-so (λ y. k ≤ y) (λ y. x ≡ y → ⊥) (λ y b q. omega arith) (passing p k n) (passing-above k n))

  passing-member : (x k n : ℕ) → k ≤ x → x < k + n → p x ≡ member x (passing p k n)
  passing-member x k zero h l = absurd (omega arith)
  passing-member x k (suc n) h l = go (order k x) (p k) refl (λ a. passing-member x (suc k) n a (omega arith))
    where
      go :
          Order k x → (b : Bool) → p k ≡ b → (suc k ≤ x → p x ≡ member x (passing p (suc k) n))
          → p x ≡ member x (cond b (k ∷ passing p (suc k) n) (passing p (suc k) n))
      go (lower a) true e rest = rw (ne_eqb x k (omega arith)) (rest (omega arith))
      go (lower a) false e rest = rest (omega arith)
      go (same a) true e rest = rw (← a, e, eq-eqb k k refl)
      go (same a) false e rest = rw (← a, e) (sym (not-passing k (suc k) n (omega arith)))
      go (higher a) b e rest = absurd (omega arith)

-- one number more passes
module _ (p q : ℕ → Bool) (x : ℕ) (now : q x ≡ true) (others : (k : ℕ) → (k ≡ x → ⊥) → q k ≡ p k) where
  passing-later : (k n : ℕ) → x < k → passing q k n ≡ passing p k n
  passing-later k zero h = refl
  passing-later k (suc n) h = rw (others k (omega arith), passing-later (suc k) n (omega arith))

  -- x is put in front of larger numbers
  put_front : (k n : ℕ) → x < k → put_in x (passing p k n) ≡ x ∷ passing p k n
  put_front k n h = go (passing p k n) (passing-above p k n)
    where
      go : (l : List ℕ) → Each (λ y. k ≤ y) l → put_in x l ≡ x ∷ l
      go [] e = refl
      go (y ∷ l) e = put_lower x y l (omega (arith, e.0))

  passing_one : (n : ℕ) → passing q x (suc n) ≡ put_in x (passing p x (suc n))
  passing_one n = rw (now, passing-later (suc x) n (omega arith)) (go (p x))
    where
      go : (b : Bool) → x ∷ passing p (suc x) n ≡ put_in x (cond b (x ∷ passing p (suc x) n) (passing p (suc x) n))
      go true = sym (put_same x x (passing p (suc x) n) refl)
      go false = sym (put_front (suc x) n (omega arith))

  passing-put : (k n : ℕ) → k ≤ x → x < k + n → passing q k n ≡ put_in x (passing p k n)
  passing-put k zero h l = absurd (omega arith)
  passing-put k (suc n) h l = go (order k x) (λ a. passing-put (suc k) n a (omega arith))
    where
      with_first : (b : Bool) → k < x → passing q (suc k) n ≡ put_in x (passing p (suc k) n)
          → cond b (k ∷ passing q (suc k) n) (passing q (suc k) n) ≡ put_in x (cond b (k ∷ passing p (suc k) n) (passing p (suc k) n))
      with_first true a rest = ap (λ (t : List ℕ). k ∷ t) rest ∙ sym (put_higher x k (passing p (suc k) n) a)
      with_first false a rest = rest

      go : Order k x → (suc k ≤ x → passing q (suc k) n ≡ put_in x (passing p (suc k) n)) → passing q k (suc n) ≡ put_in x (passing p k (suc n))
      go (lower a) rest = rw (others k (omega arith)) (with_first (p k) a (rest a))
      go (same a) rest = rw a (passing_one n)
      go (higher a) rest = absurd (omega arith)

-- ---- the elements of a set of bits

module _ (ws : List ℕ) where
  pub elements-rising : rising (elements ws) ≡ true
  unfolding elements
  elements-rising = passing-rising (holds ws) 0 (64 * length ws)

  module _ (k : ℕ) (h : k < 64 * length ws) where
    pub elements-member : holds ws k ≡ member k (elements ws)
    unfolding elements
    elements-member = passing-member (holds ws) k 0 (64 * length ws) (omega arith) (omega arith)

    pub elements_with : elements (with_bit ws k) ≡ put_in k (elements ws)
    unfolding elements
    elements_with =
        rw (with_length ws k)
        (passing-put (holds ws) (holds (with_bit ws k)) k (with_same ws k (omega arith)) (with_other ws k) 0 (64 * length ws) (omega arith) (omega arith))

    -- a bit that was set already changes nothing; another one makes one element more
    pub elements_old : holds ws k ≡ true → elements (with_bit ws k) ≡ elements ws
    elements_old e = elements_with ∙ put_old k (elements ws) elements-rising (sym elements-member ∙ e)

    pub elements_new : holds ws k ≡ false → length (elements (with_bit ws k)) ≡ length (elements ws) + 1
    elements_new e = ap length elements_with ∙ put_new k (elements ws) (sym elements-member ∙ e)

    -- a caller that collects numbers: one number more
    pub elements-more : (xs : List ℕ) → elements ws ≡ set_of xs → elements (with_bit ws k) ≡ set_of (xs ++ (k ∷ []))
    elements-more xs e = elements_with ∙ ap (put_in k) e ∙ sym (set_snoc xs k)

pub elements-zeros : (n : ℕ) → elements (zeros n) ≡ []
unfolding elements
elements-zeros n = passing-none (holds (zeros n)) (holds-zeros n) 0 (64 * length (zeros n))
