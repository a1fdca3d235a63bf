-- What std's `all` and `any` answer over a chain, in the words of `specs/`.
use mathlib.Core.Bool.{Bool, true, false}
use mathlib.Core.List.{List, [], ◌∷◌}
use mathlib.Core.Path.{◌≡◌, refl, ◌∙◌}
use denote.Param.Members.{Mut}
use Rattle.std.proofs.lemmas.Iterator.{YieldsList}
use Rattle.std.proofs.lemmas.Iterator.Search.{all_from_yields_List, any_from_yields_List}
use Rattle.std.specs.Fn.{Called}
use Rattle.std.specs.Iterator.{YieldsThen}
use Rattle.std.specs.List.{FoldsTo, list_all, list_any}
use Rattle.std.specs.Prelude.{Option}
use Rattle.std.specs.Option.{MatchOption}
use Rattle.lists.specs.Tests.{all, any}

module _ {A : Type 0} (p : A → Bool) where
  -- std's words for the same
  pub all-list : (l : List A) → list_all p l ≡ all p l
  all-list [] = refl
  all-list (x ∷ l) = rw (all-list l)

  pub any-list : (l : List A) → list_any p l ≡ any p l
  any-list [] = refl
  any-list (x ∷ l) = rw (any-list l)

module _ {S A B F : Type 0} {steps : S → Option A → S → Type 0} {v : A → B} {g : Mut F (A × Unit {0}) Bool} {s : S} {xs : List B} (test : B → Bool) (u : S) (f : F) where
  -- `all` over a chain that gives xs, by its clause `ran`
  pub all-ran : (r : Bool)
      → (ys : List A) × (o : Option A) × (j : F) × YieldsThen steps s ys o u × FoldsTo (λ p x q. Called g p (x, tt) true q) f ys j
      × MatchOption o (r ≡ true) (λ x. (r ≡ false) × ((h : F) × Called g j (x, tt) false h))
      → YieldsList steps v s xs → ((x : A) (b : Bool) (q : F) → Called g f (x, tt) b q → (q ≡ f) × (b ≡ test (v x))) → r ≡ all test xs
  all-ran r e y k = all_from_yields_List test u f r e y k ∙ all-list test xs

  -- `any` over a chain that gives xs
  pub any-ran : (r : Bool)
      → (ys : List A) × (o : Option A) × (j : F) × YieldsThen steps s ys o u × FoldsTo (λ p x q. Called g p (x, tt) false q) f ys j
      × MatchOption o (r ≡ false) (λ x. (r ≡ true) × ((h : F) × Called g j (x, tt) true h))
      → YieldsList steps v s xs → ((x : A) (b : Bool) (q : F) → Called g f (x, tt) b q → (q ≡ f) × (b ≡ test (v x))) → r ≡ any test xs
  any-ran r e y k = any_from_yields_List test u f r e y k ∙ any-list test xs
