-- Counting: different numbers below n are at most n, and n of them are all the numbers below n.
use Prim.Native.Nat.{ℕ, zero, suc, ◌≤◌, ◌<◌}
use mathlib.Core.Bool.{Bool, true, false, cond}
use mathlib.Core.List.{List, [], ◌∷◌}
use mathlib.Core.Path.{◌≡◌, refl, sym}
use native.Mathlib.Omega.{arith}
use lib.Dec.{eqb}
use lib.ListN.{length}
use borrow.Author.Tests.{eqb-true, eqb-false, ne_eqb}
use Rattle.lists.specs.Tests.{Each}
use Rattle.lists.specs.Sets.{member, distinct}
use Rattle.lists.proofs.TestLaws.{each-so}
use Rattle.lists.proofs.DistinctLaws.{member-not, not-member, distinct_head, distinct_tail}

without : ℕ → List ℕ → List ℕ
without x [] = []
without x (y ∷ l) = cond (eqb y x) (without x l) (y ∷ without x l)

each_without : (P : ℕ → Type 0) (x : ℕ) (l : List ℕ) → Each (λ y. (y ≡ x → ⊥) → P y) l → Each P (without x l)
unfolding without
each_without P x [] e = tt
each_without P x (y ∷ l) e = go (eqb y x) refl (each_without P x l e.1)
  where
    go : (b : Bool) → eqb y x ≡ b → Each P (without x l) → Each P (cond b (without x l) (y ∷ without x l))
    go true q ih = ih
    go false q ih = (e.0 (eqb-false y x q), ih)

without_same : (x : ℕ) (l : List ℕ) → Each (λ y. x ≡ y → ⊥) l → without x l ≡ l
unfolding without
without_same x [] e = refl
without_same x (y ∷ l) e = rw (ne_eqb y x (λ q. e.0 (sym q)), without_same x l e.1)

distinct_without : (x : ℕ) (l : List ℕ) → distinct l ≡ true → distinct (without x l) ≡ true
unfolding without
distinct_without x [] h = refl
distinct_without x (y ∷ l) h = go (eqb y x) (distinct_without x l (distinct_tail y l h))
  where
    go : (b : Bool) → distinct (without x l) ≡ true → distinct (cond b (without x l) (y ∷ without x l)) ≡ true
    go true ih = ih
    go false ih =
        let others : Each (λ z. (z ≡ x → ⊥) → y ≡ z → ⊥) l = each-so (λ z. y ≡ z → ⊥) (λ z. (z ≡ x → ⊥) → y ≡ z → ⊥) (λ z p n. p) l (member-not y l (distinct_head y l h)) in
        rw (not-member y (without x l) (each_without (λ z. y ≡ z → ⊥) x l others)) ih

length_without : (x : ℕ) (l : List ℕ) → distinct l ≡ true → length l ≤ suc (length (without x l))
unfolding without
length_without x [] h = omega arith
length_without x (y ∷ l) h = go (eqb y x) refl (length_without x l (distinct_tail y l h))
  where
    go : (b : Bool) → eqb y x ≡ b → length l ≤ suc (length (without x l)) → suc (length l) ≤ suc (length (cond b (without x l) (y ∷ without x l)))
    go true e ih =
        let q : member x l ≡ false = rw (eqb-true y x e) at (distinct_head y l h) in
        rw (without_same x l (member-not x l q)) (omega arith)
    go false e ih = omega arith

-- different numbers below n are at most n
pub distinct-count : (n : ℕ) (l : List ℕ) → distinct l ≡ true → Each (λ x. x < n) l → length l ≤ n
distinct-count zero [] d e = omega arith
distinct-count zero (x ∷ l) d e = absurd (let h : x < 0 = e.0 in omega arith)
distinct-count (suc n) l d e =
    let low : Each (λ x. (x ≡ n → ⊥) → x < n) l = each-so (λ x. x < suc n) (λ x. (x ≡ n → ⊥) → x < n) (λ x h k. omega arith) l e in
    let r : length (without n l) ≤ n = distinct-count n (without n l) (distinct_without n l d) (each_without (λ x. x < n) n l low) in
    omega (arith, length_without n l d)

-- n different numbers below n are all of these
pub distinct-all : (n : ℕ) (l : List ℕ) → distinct l ≡ true → Each (λ x. x < n) l → length l ≡ n → (y : ℕ) → y < n → member y l ≡ true
distinct-all n l d e s y h = go (member y l) refl
  where
    go : (b : Bool) → member y l ≡ b → b ≡ true
    go true m = refl
    go false m =
        let dd : distinct (y ∷ l) ≡ true = rw m d in
        absurd (let q : suc (length l) ≤ n = distinct-count n (y ∷ l) dd (h, e) in omega arith)
