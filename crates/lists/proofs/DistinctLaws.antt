-- What `member` and `distinct` say of each element, and lists without repeats taken apart.
use Prim.Native.Nat.{ℕ, ◌≤◌, ◌<◌}
use mathlib.Core.Bool.{Bool, true, false, not, ◌||◌}
use mathlib.Core.List.{List, [], ◌∷◌, ◌++◌}
use mathlib.Core.Path.{◌≡◌, refl, sym, ◌∙◌}
use native.Mathlib.Omega.{arith}
use lib.Dec.{eqb}
use borrow.Author.Tests.{eqb-true, eqb-false, ne_eqb, not-true}
use Rattle.lists.specs.Tests.{Each}
use Rattle.lists.specs.Sets.{member, distinct}
use Rattle.lists.proofs.TestLaws.{each-so}
use Rattle.lists.proofs.BoolLaws.{true-false, and_left, and_right, or_left, or_right}
use Rattle.lists.proofs.OnceLaws.{member_append, distinct_snoc}

pub each_member : (P : ℕ → Type 0) (x : ℕ) (l : List ℕ) → Each P l → member x l ≡ true → P x
each_member P x [] e h = true-false h refl
each_member P x (y ∷ l) e h = go (eqb x y) refl h (each_member P x l e.1)
  where
    go : (b : Bool) → eqb x y ≡ b → (b || member x l) ≡ true → (member x l ≡ true → P x) → P x
    go true q h ih = rw (eqb-true x y q) e.0
    go false q h ih = ih h

module _ (x y : ℕ) (l : List ℕ) (h : member x (y ∷ l) ≡ false) where
  pub member-first : x ≡ y → ⊥
  member-first = eqb-false x y (or_left (eqb x y) (member x l) h)

  pub member-rest : member x l ≡ false
  member-rest = or_right (eqb x y) (member x l) h

-- x is no element: it differs from each
pub member-not : (x : ℕ) (l : List ℕ) → member x l ≡ false → Each (λ y. x ≡ y → ⊥) l
member-not x [] h = tt
member-not x (y ∷ l) h = (member-first x y l h, member-not x l (member-rest x y l h))

pub not-member : (x : ℕ) (l : List ℕ) → Each (λ y. x ≡ y → ⊥) l → member x l ≡ false
not-member x [] e = refl
not-member x (y ∷ l) e = rw (ne_eqb x y e.0, not-member x l e.1)

module _ (x : ℕ) (xs ys : List ℕ) (h : member x (xs ++ ys) ≡ false) where
  pub member-left : member x xs ≡ false
  member-left = or_left (member x xs) (member x ys) (sym (member_append x xs ys) ∙ h)

  pub member_right : member x ys ≡ false
  member_right = or_right (member x xs) (member x ys) (sym (member_append x xs ys) ∙ h)

module _ (x : ℕ) (l : List ℕ) (h : distinct (x ∷ l) ≡ true) where
  pub distinct_head : member x l ≡ false
  distinct_head = not-true (member x l) (and_left (not (member x l)) (distinct l) h)

  pub distinct_tail : distinct l ≡ true
  distinct_tail = and_right (not (member x l)) (distinct l) h

pub distinct-left : (xs ys : List ℕ) → distinct (xs ++ ys) ≡ true → distinct xs ≡ true
distinct-left [] ys h = refl
distinct-left (x ∷ xs) ys h =
    rw (member-left x xs ys (distinct_head x (xs ++ ys) h)) (distinct-left xs ys (distinct_tail x (xs ++ ys) h))

pub distinct-right : (xs ys : List ℕ) → distinct (xs ++ ys) ≡ true → distinct ys ≡ true
distinct-right [] ys h = h
distinct-right (x ∷ xs) ys h = distinct-right xs ys (distinct_tail x (xs ++ ys) h)

-- no element of one part stands in the other
pub distinct_apart : (xs ys : List ℕ) → distinct (xs ++ ys) ≡ true → Each (λ x. member x ys ≡ false) xs
distinct_apart [] ys h = tt
distinct_apart (x ∷ xs) ys h = (member_right x xs ys (distinct_head x (xs ++ ys) h), distinct_apart xs ys (distinct_tail x (xs ++ ys) h))

pub apart_swap : (xs ys : List ℕ) → Each (λ x. member x ys ≡ false) xs → Each (λ y. member y xs ≡ false) ys
apart_swap xs [] e = tt
apart_swap xs (y ∷ ys) e = (not-member y xs (heads xs e), apart_swap xs ys (tails xs e))
  where
    heads : (l : List ℕ) → Each (λ x. member x (y ∷ ys) ≡ false) l → Each (λ x. y ≡ x → ⊥) l
    heads [] f = tt
    heads (x ∷ l) f = (λ q. member-first x y ys f.0 (sym q), heads l f.1)

    tails : (l : List ℕ) → Each (λ x. member x (y ∷ ys) ≡ false) l → Each (λ x. member x ys ≡ false) l
    tails [] f = tt
    tails (x ∷ l) f = (member-rest x y ys f.0, tails l f.1)

-- a number above all others repeats none of them
pub distinct-above : (k x : ℕ) (xs : List ℕ) → Each (λ y. y < k) xs → k ≤ x → distinct xs ≡ true → distinct (xs ++ x ∷ []) ≡ true
distinct-above k x xs e h d =
    distinct_snoc xs x ∙ rw (d, not-member x xs (each-so (λ y. y < k) (λ y. x ≡ y → ⊥) (λ y b q. omega arith) xs e))
