-- Elements of a list, and claims: one list of literals for each.
use Prim.Native.Nat.{ℕ}
use mathlib.Core.Bool.{Bool, true, false, ◌&&◌}
use mathlib.Core.List.Memᴰ
use mathlib.Core.List.{List, [], ◌∷◌, map, Memᴰ}
use mathlib.Core.Logic.{⊎_elim}
use mathlib.Core.Path.{◌≡◌, refl, sym, ap, ◌∙◌}
use Rattle.lists.specs.Tests.{all, any, Each}
use Rattle.lists.proofs.BoolLaws.{to_false, true-false, and_left, and_right}
use Rattle.lists.proofs.TestLaws.{all_map}
use Rattle.aiger.specs.Gates.{Valuation, value}
use Rattle.obligation_spec.specs.Meaning.{◌∈◌}

module _ {A : Type 0} where
  pub all_element : (p : A → Bool) (x : A) (l : List A) → all p l ≡ true → x ∈ l → p x ≡ true
  all_element p x [] h m = absurd (Memᴰ.not-nil m)
  all_element p x (y ∷ l) h m =
      ⊎_elim
      (λ e. ap p e ∙ and_left (p y) (all p l) h)
      (λ r. all_element p x l (and_right (p y) (all p l) h) r)
      (Memᴰ.cases_cons m)

  pub each_element : (P : A → Type 0) (x : A) (l : List A) → Each P l → x ∈ l → P x
  each_element P x [] e m = absurd (Memᴰ.not-nil m)
  each_element P x (y ∷ l) e m =
      ⊎_elim
      (λ q. rw q e.0)
      (λ r. each_element P x l e.1 r)
      (Memᴰ.cases_cons m)

  -- an element that fails the test
  pub record Failing (p : A → Bool) (l : List A) : Type 0 where
    pub element : A
    pub inside : element ∈ l
    pub fails : p element ≡ false

  pub some_fails : (p : A → Bool) (l : List A) → all p l ≡ false → Failing p l
  some_fails p [] h = true-false refl h
  some_fails p (y ∷ l) h = go (p y) refl h (some_fails p l)
    where
      go : (b : Bool) → p y ≡ b → (b && all p l) ≡ false → (all p l ≡ false → Failing p l) → Failing p (y ∷ l)
      go false e h ih = record { element = y; inside = Memᴰ.head refl; fails = e }
      go true e h ih = let f = ih h in record { element = f.element; inside = Memᴰ.tail f.inside; fails = f.fails }

  -- claims hold together unless one fails
  module _ (v : Valuation) (f : A → List ℕ) (claims : List A) where
    pub claim_fails : all (any (value v)) (map f claims) ≡ false → Failing (λ x. any (value v) (f x)) claims
    claim_fails h = some_fails (λ x. any (value v) (f x)) claims (sym (all_map f (any (value v)) claims) ∙ h)

    pub fails_claims : (x : A) → x ∈ claims → any (value v) (f x) ≡ false → all (any (value v)) (map f claims) ≡ false
    fails_claims x m e =
        to_false (all (any (value v)) (map f claims))
        (λ h. true-false (all_element (λ x. any (value v) (f x)) x claims (sym (all_map f (any (value v)) claims) ∙ h) m) e)
