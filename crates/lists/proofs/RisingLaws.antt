-- Laws of `rising`: strictly rising lists.
use Prim.Native.Nat.{ℕ, suc, ◌+◌, ◌-◌, ◌<◌, ◌≤◌}
use mathlib.Core.Bool.{Bool, true, false, cond, ◌||◌}
use mathlib.Core.List.{List, [], ◌∷◌}
use mathlib.Core.Path.{◌≡◌, refl, sym, ap, ◌∙◌}
use native.Mathlib.Omega.{arith}
use lib.Dec.{ltb, eqb}
use lib.ListN.{length, get_or, drop, length-drop}
use borrow.Author.Tests.{ltb-true, lt-ltb, le-ltb, eqb-true, eq-eqb}
use Rattle.lists.specs.Tests.{Each}
use Rattle.lists.specs.Sets.{member, distinct, rising_by, rising}
use Rattle.lists.proofs.BoolLaws.{true-false, and_left, and_right}
use Rattle.lists.proofs.RestLaws.{rest_more}
use Rattle.lists.proofs.TestLaws.{each-so}
use Rattle.lists.proofs.DistinctLaws.{each_member, not-member}

pub rising-tail : (x : ℕ) (l : List ℕ) → rising (x ∷ l) ≡ true → rising l ≡ true
rising-tail x [] h = refl
rising-tail x (y ∷ l) h = and_right (ltb x y) (rising (y ∷ l)) h

-- the first is below each other
pub rising-below : (x : ℕ) (l : List ℕ) → rising (x ∷ l) ≡ true → Each (λ y. x < y) l
rising-below x [] h = tt
rising-below x (y ∷ l) h =
    let k : x < y = ltb-true x y (and_left (ltb x y) (rising (y ∷ l)) h) in
    (k, each-so (λ z. y < z) (λ z. x < z) (λ z b. omega arith) l (rising-below y l (and_right (ltb x y) (rising (y ∷ l)) h)))

-- and where it is, the list rises
pub rising_cons : (x : ℕ) (l : List ℕ) → Each (λ y. x < y) l → rising l ≡ true → rising (x ∷ l) ≡ true
rising_cons x [] e h = refl
rising_cons x (y ∷ l) e h = rw (lt-ltb x y e.0) h

-- what is below all elements is none of them
pub above-none : (x : ℕ) (l : List ℕ) → Each (λ y. x < y) l → member x l ≡ false
above-none x l a = not-member x l (each-so (λ y. x < y) (λ y. x ≡ y → ⊥) (λ y b q. omega arith) l a)

pub rising-distinct : (l : List ℕ) → rising l ≡ true → distinct l ≡ true
rising-distinct [] h = refl
rising-distinct (x ∷ l) h =
    rw (above-none x l (rising-below x l h))
    (rising-distinct l (rising-tail x l h))

-- ---- rising lists with the same elements are the same

member_self : (x : ℕ) (l : List ℕ) → member x (x ∷ l) ≡ true
member_self x l = rw (eq-eqb x x refl)

-- the elements behind the first are the list's but for it
member-tail : (x z : ℕ) (l : List ℕ) → Each (λ y. x < y) l → member z l ≡ cond (eqb z x) false (member z (x ∷ l))
member-tail x z l a = go (eqb z x) refl
  where
    go : (b : Bool) → eqb z x ≡ b → member z l ≡ cond b false (b || member z l)
    go true e = rw (eqb-true z x e) (above-none x l a)
    go false e = refl

least : (x y : ℕ) (ys : List ℕ) → Each (λ z. y < z) ys → member x (y ∷ ys) ≡ true → y ≤ x
least x y ys a m = each_member (λ z. y ≤ z) x (y ∷ ys) (omega arith, each-so (λ z. y < z) (λ z. y ≤ z) (λ z b. omega arith) ys a) m

pub rising-same : (xs ys : List ℕ) → rising xs ≡ true → rising ys ≡ true → ((z : ℕ) → member z xs ≡ member z ys) → xs ≡ ys
rising-same [] [] s t m = refl
rising-same [] (y ∷ ys) s t m = true-false (member_self y ys) (sym (m y))
rising-same (x ∷ xs) [] s t m = true-false (member_self x xs) (m x)
rising-same (x ∷ xs) (y ∷ ys) s t m =
    let a : y ≤ x = least x y ys (rising-below y ys t) (sym (m x) ∙ member_self x xs) in
    let b : x ≤ y = least y x xs (rising-below x xs s) (m y ∙ member_self y ys) in
    let e : x ≡ y = omega arith in
    let rest : xs ≡ ys = rising-same xs ys (rising-tail x xs s) (rising-tail y ys t) (tails e) in
    ap (λ (n : ℕ). n ∷ xs) e ∙ ap (λ (l : List ℕ). y ∷ l) rest
  where
    tails : x ≡ y → (z : ℕ) → member z xs ≡ member z ys
    tails e z =
        member-tail x z xs (rising-below x xs s)
        ∙ ap (λ (b : Bool). cond (eqb z x) false b) (m z)
        ∙ ap (λ (n : ℕ). cond (eqb z n) false (member z (y ∷ ys))) e
        ∙ sym (member-tail y z ys (rising-below y ys t))

-- a loop that asks whether a list rises, at place i, with all before it in order: the rest begins at i - 1
module _ {A : Type 0} (before : A → A → Bool) (l : List A) (i : ℕ) (r : Bool) (k : r ≡ rising_by before (drop (i - 1) l)) (some : 0 < i) where
  two : (d : A) → i < length l → drop (i - 1) l ≡ get_or l (i - 1) d ∷ get_or l i d ∷ drop (i + 1) l
  two d h =
      let e : i - 1 + 1 ≡ i = omega arith in
      rest_more l (i - 1) d (omega arith) ∙ rw (e, rest_more l i d h) refl

  pub rises-stop : (d : A) → i < length l → before (get_or l (i - 1) d) (get_or l i d) ≡ false → false ≡ r
  rises-stop d h o = sym (k ∙ rw (two d h, o) refl)

  pub rises-more : (d : A) → i < length l → before (get_or l (i - 1) d) (get_or l i d) ≡ true → r ≡ rising_by before (drop (i + 1 - 1) l)
  rises-more d h o =
      let e : i + 1 - 1 ≡ i = omega arith in
      k ∙ rw (two d h, o, e, rest_more l i d h) refl

  pub rises-end : length l ≤ i → true ≡ r
  rises-end h = sym (k ∙ last (drop (i - 1) l) (length-drop (i - 1) l))
    where
      last : (t : List A) → length t ≡ length l - (i - 1) → rising_by before t ≡ true
      last [] e = refl
      last (x ∷ []) e = refl
      last (x ∷ y ∷ t) e = absurd (let q : suc (suc (length t)) ≡ length l - (i - 1) = e in omega arith)

-- the same for numbers, as the code compares them
module _ (l : List ℕ) (i : ℕ) (r : Bool) (k : r ≡ rising (drop (i - 1) l)) (some : 0 < i) where
  pub numbers_fall : i < length l → get_or l i 0 ≤ get_or l (i - 1) 0 → false ≡ r
  numbers_fall h o = rises-stop ltb l i r k some 0 h (le-ltb (get_or l (i - 1) 0) (get_or l i 0) o)

  pub numbers_rise : i < length l → get_or l (i - 1) 0 < get_or l i 0 → r ≡ rising (drop (i + 1 - 1) l)
  numbers_rise h o = rises-more ltb l i r k some 0 h (lt-ltb (get_or l (i - 1) 0) (get_or l i 0) o)
