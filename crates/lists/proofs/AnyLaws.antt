-- `any` and `member`: an element that passes, and lists with the same elements.
use Prim.Native.Nat.{ℕ}
use mathlib.Core.Path.{◌≡◌, refl, sym, ap, ◌∙◌}
use mathlib.Core.Bool.{Bool, true, false, ◌||◌, or-true}
use mathlib.Core.List.{List, [], ◌∷◌}
use lib.Dec.{eqb}
use borrow.Author.Tests.{eqb-true, eq-eqb}
use Rattle.lists.specs.Tests.{any}
use Rattle.lists.specs.Sets.{member}
use Rattle.lists.proofs.BoolLaws.{true-false}

pub member-any : (x : ℕ) (l : List ℕ) → member x l ≡ any (eqb x) l
member-any x [] = refl
member-any x (y ∷ l) = rw (member-any x l)

module _ (p : ℕ → Bool) where
  -- an element that passes
  pub any_found : {X : Type 0} (l : List ℕ) → any p l ≡ true → ((x : ℕ) → member x l ≡ true → p x ≡ true → X) → X
  any_found [] h f = true-false h refl
  any_found {X} (y ∷ l) h f = go (p y) refl h (λ k. any_found l k (λ x m q. f x (rw m (or-true (eqb x y))) q))
    where
      go : (b : Bool) → p y ≡ b → (b || any p l) ≡ true → (any p l ≡ true → X) → X
      go true e h ih = f y (rw (eq-eqb y y refl)) e
      go false e h ih = ih h

  pub any-member : (x : ℕ) (l : List ℕ) → member x l ≡ true → p x ≡ true → any p l ≡ true
  any-member x [] h e = true-false h refl
  any-member x (y ∷ l) h e = go (eqb x y) refl h (λ k. any-member x l k e)
    where
      go : (b : Bool) → eqb x y ≡ b → (b || member x l) ≡ true → (member x l ≡ true → any p l ≡ true) → (p y || any p l) ≡ true
      go true q h ih = let k : p y ≡ true = ap p (sym (eqb-true x y q)) ∙ e in rw k
      go false q h ih = rw (ih h) (or-true (p y))

  pub any_same : (xs ys : List ℕ) → ((x : ℕ) → member x xs ≡ member x ys) → any p xs ≡ any p ys
  any_same xs ys same = go (any p xs) refl (any p ys) refl
    where
      go : (a : Bool) → any p xs ≡ a → (b : Bool) → any p ys ≡ b → any p xs ≡ any p ys
      go true e true f = e ∙ sym f
      go true e false f = any_found xs e (λ x m q. true-false (any-member x ys (sym (same x) ∙ m) q) f)
      go false e true f = any_found ys f (λ x m q. true-false (any-member x xs (same x ∙ m) q) e)
      go false e false f = e ∙ sym f
