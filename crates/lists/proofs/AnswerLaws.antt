-- Laws of `unless` and `and_then`: what an answer says of the tests before it.
use Prim.Native.Nat.{ℕ}
use mathlib.Core.Bool.{Bool, true, false, cond}
use mathlib.Core.Path.{◌≡◌, refl}
use native.Mathlib.Omega.{arith}
use Rattle.lists.specs.Answer.{Answer, got, refused, unless, and_then}

module _ {A : Type 0} where
  pub got-refused : {X : Type 0} {r : Answer A} {a : A} {n : ℕ} → r ≡ got a → r ≡ refused n → X
  got-refused e f = absurd (let z : ◌≡◌ {A = ℕ} 0 1 = cc in omega arith)

  pub got_same : (a b : A) → got a ≡ got b → a ≡ b
  got_same a b e = cc

  module _ (n : ℕ) (r : Answer A) (a : A) where
    pub unless_test : (b : Bool) → unless n b r ≡ got a → b ≡ true
    unless_test true e = refl
    unless_test false e = got-refused e refl

    pub unless-got : (b : Bool) → unless n b r ≡ got a → r ≡ got a
    unless-got true e = e
    unless-got false e = got-refused e refl

module _ {A B : Type 0} where
  -- the first answer, and what follows from it
  pub and_then-got : (r : Answer A) (f : A → Answer B) (b : B) → and_then r f ≡ got b → (a : A) × (r ≡ got a) × (f a ≡ got b)
  and_then-got (got a) f b e = (a, refl, e)
  and_then-got (refused n) f b e = got-refused e refl

  pub unless_then : (n : ℕ) (b : Bool) (a : A) (f : A → Answer B) → and_then (unless n b (got a)) f ≡ unless n b (f a)
  unless_then n true a f = refl
  unless_then n false a f = refl

-- one step after another, and the same steps
pub and_then_assoc : {A B C : Type 0} (x : Answer A) (f : A → Answer B) (g : B → Answer C) → and_then (and_then x f) g ≡ and_then x (λ a. and_then (f a) g)
and_then_assoc (got a) f g = refl
and_then_assoc (refused k) f g = refl

pub and_then-same : {A B : Type 0} (x : Answer A) (f g : A → Answer B) → ((a : A) → f a ≡ g a) → and_then x f ≡ and_then x g
and_then-same (got a) f g e = e a
and_then-same (refused k) f g e = refl

-- an answer that refuses for no reason but m
module _ {A : Type 0} (m : ℕ) where
  abbrev pub Only : Answer A → Type 0
  Only (got a) = Unit {0}
  Only (refused k) = k ≡ m

  pub only-unless : (b : Bool) (x : Answer A) → Only x → Only (unless m b x)
  only-unless true x o = o
  only-unless false x o = refl

  pub only-cond : (b : Bool) (x y : Answer A) → Only x → Only y → Only (cond b x y)
  only-cond true x y o p = o
  only-cond false x y o p = p

pub only_then : {A B : Type 0} (m : ℕ) (x : Answer A) (f : A → Answer B) → Only m x → ((a : A) → Only m (f a)) → Only m (and_then x f)
only_then m (got a) f o p = p a
only_then m (refused k) f o p = o
