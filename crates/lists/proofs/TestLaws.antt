-- Laws of `all`, `any`, `Each` and `every`, and the loops that compute them.
use Prim.Native.Nat.{ℕ, zero, suc, ◌+◌, ◌≤◌, ◌<◌}
use mathlib.Core.Path.{◌≡◌, refl, sym, ◌∙◌}
use mathlib.Core.Bool.{Bool, true, false, ◌&&◌, ◌||◌, and_assoc, or_assoc, and-true}
use mathlib.Core.List.{List, [], ◌∷◌, ◌++◌, map}
use native.Mathlib.Omega.{arith}
use lib.ListN.{length, get_or, take, drop, drop_of_length-le}
use Rattle.lists.specs.Tests.{all, any, all_from, Each, every}
use Rattle.lists.proofs.BoolLaws.{true-false, and_left, and_right, and_swap, or_swap}
use Rattle.lists.proofs.RestLaws.{rest_more}

module _ {A : Type 0} (p : A → Bool) where
  pub all_append : (xs ys : List A) → all p (xs ++ ys) ≡ (all p xs && all p ys)
  all_append [] ys = refl
  all_append (x ∷ xs) ys = rw (all_append xs ys) (sym (and_assoc (p x) (all p xs) (all p ys)))

  pub any_append : (xs ys : List A) → any p (xs ++ ys) ≡ (any p xs || any p ys)
  any_append [] ys = refl
  any_append (x ∷ xs) ys = rw (any_append xs ys) (sym (or_assoc (p x) (any p xs) (any p ys)))

  pub all-and : (q : A → Bool) (l : List A) → all (λ x. p x && q x) l ≡ (all p l && all q l)
  all-and q [] = refl
  all-and q (x ∷ l) = rw (all-and q l) (and_swap (p x) (q x) (all p l) (all q l))

  pub any_or : (q : A → Bool) (l : List A) → any (λ x. p x || q x) l ≡ (any p l || any q l)
  any_or q [] = refl
  any_or q (x ∷ l) = rw (any_or q l) (or_swap (p x) (q x) (any p l) (any q l))

  pub all-at : (l : List A) (i : ℕ) (d : A) → all p l ≡ true → i < length l → p (get_or l i d) ≡ true
  all-at [] i d h k = absurd (omega arith)
  all-at (x ∷ l) zero d h k = and_left (p x) (all p l) h
  all-at (x ∷ l) (suc i) d h k = all-at l i d (and_right (p x) (all p l) h) (omega arith)

  pub all_drop : (n : ℕ) (l : List A) → all p l ≡ true → all p (drop n l) ≡ true
  all_drop zero l h = h
  all_drop (suc n) [] h = refl
  all_drop (suc n) (x ∷ l) h = all_drop n l (and_right (p x) (all p l) h)

  pub each_of_all : (l : List A) → all p l ≡ true → Each (λ x. p x ≡ true) l
  each_of_all [] h = tt
  each_of_all (x ∷ l) h = (and_left (p x) (all p l) h, each_of_all l (and_right (p x) (all p l) h))

  pub all_of_each : (l : List A) → Each (λ x. p x ≡ true) l → all p l ≡ true
  all_of_each [] e = refl
  all_of_each (x ∷ l) e = rw (e.0, all_of_each l e.1)

-- one element more at the end
module _ {A : Type 0} where
  pub all_snoc : (p : A → Bool) (xs : List A) (x : A) → all p (xs ++ x ∷ []) ≡ (all p xs && p x)
  all_snoc p xs x = all_append p xs (x ∷ []) ∙ rw (and-true (p x))

  pub all-from_snoc : (p : ℕ → A → Bool) (n : ℕ) (xs : List A) (x : A) → all_from p n (xs ++ x ∷ []) ≡ (all_from p n xs && p (n + length xs) x)
  all-from_snoc p n [] x = let e : n + 0 ≡ n = omega arith in rw (e, and-true (p n x))
  all-from_snoc p n (y ∷ xs) x =
      let e : suc n + length xs ≡ n + suc (length xs) = omega arith in
      rw (all-from_snoc p (suc n) xs x, e) (sym (and_assoc (p n y) (all_from p (suc n) xs) (p (n + suc (length xs)) x)))

module _ {A : Type 0} (p q : A → Bool) (same : (x : A) → p x ≡ q x) where
  pub any_cong : (l : List A) → any p l ≡ any q l
  any_cong [] = refl
  any_cong (x ∷ l) = rw (same x, any_cong l)

-- tests that agree on each element
module _ {A : Type 0} (p q : A → Bool) where
  pub all-each : (l : List A) → Each (λ x. p x ≡ q x) l → all p l ≡ all q l
  all-each [] e = refl
  all-each (x ∷ l) e = rw (e.0, all-each l e.1)

  pub any-each : (l : List A) → Each (λ x. p x ≡ q x) l → any p l ≡ any q l
  any-each [] e = refl
  any-each (x ∷ l) e = rw (e.0, any-each l e.1)

module _ {A B : Type 0} (f : A → B) where
  pub all_map : (p : B → Bool) (l : List A) → all p (map f l) ≡ all (λ x. p (f x)) l
  all_map p [] = refl
  all_map p (x ∷ l) = rw (all_map p l)

  pub any-map : (p : B → Bool) (l : List A) → any p (map f l) ≡ any (λ x. p (f x)) l
  any-map p [] = refl
  any-map p (x ∷ l) = rw (any-map p l)

  pub each_map : (P : B → Type 0) (l : List A) → Each (λ x. P (f x)) l → Each P (map f l)
  each_map P [] e = tt
  each_map P (x ∷ l) e = (e.0, each_map P l e.1)

  pub each_of_map : (P : B → Type 0) (l : List A) → Each P (map f l) → Each (λ x. P (f x)) l
  each_of_map P [] e = tt
  each_of_map P (x ∷ l) e = (e.0, each_of_map P l e.1)

-- a loop that asks for all: r is what it has to answer, and its answer so far is true
module _ {A : Type 0} (p : A → Bool) (l : List A) (i : ℕ) (r : Bool) (k : r ≡ all p (drop i l)) where
  pub all-stop : (d : A) → i < length l → p (get_or l i d) ≡ false → false ≡ r
  all-stop d h e = sym (k ∙ rw (rest_more l i d h, e))

  pub all_more : (d : A) → i < length l → p (get_or l i d) ≡ true → r ≡ all p (drop (i + 1) l)
  all_more d h e = k ∙ rw (rest_more l i d h, e)

  pub all_end : length l ≤ i → true ≡ r
  all_end h = sym (k ∙ rw (drop_of_length-le l h))

module _ {A : Type 0} (P : A → Type 0) where
  pub each_append : (xs ys : List A) → Each P xs → Each P ys → Each P (xs ++ ys)
  each_append [] ys e f = f
  each_append (x ∷ xs) ys e f = (e.0, each_append xs ys e.1 f)

  pub each-split : (xs ys : List A) → Each P (xs ++ ys) → Each P xs × Each P ys
  each-split [] ys e = (tt, e)
  each-split (x ∷ xs) ys e = let s = each-split xs ys e.1 in ((e.0, s.0), s.1)

  pub each_at : (l : List A) (i : ℕ) (d : A) → Each P l → i < length l → P (get_or l i d)
  each_at [] i d e h = absurd (omega arith)
  each_at (x ∷ l) zero d e h = e.0
  each_at (x ∷ l) (suc i) d e h = each_at l i d e.1 (omega arith)

  pub each-so : (Q : A → Type 0) → ((x : A) → P x → Q x) → (l : List A) → Each P l → Each Q l
  each-so Q f [] e = tt
  each-so Q f (x ∷ l) e = (f x e.0, each-so Q f l e.1)

  pub each_take : (n : ℕ) (l : List A) → Each P l → Each P (take n l)
  each_take zero l e = tt
  each_take (suc n) [] e = tt
  each_take (suc n) (x ∷ l) e = (e.0, each_take n l e.1)

  pub each_with : (Q R : A → Type 0) → ((x : A) → P x → Q x → R x) → (l : List A) → Each P l → Each Q l → Each R l
  each_with Q R f [] e k = tt
  each_with Q R f (x ∷ l) e k = (f x e.0 k.0, each_with Q R f l e.1 k.1)

  pub each-any : ((x : A) → P x) → (l : List A) → Each P l
  each-any f [] = tt
  each-any f (x ∷ l) = (f x, each-any f l)

-- every test of the list passes: for a list that is written out, the product of their equations
abbrev pub Passes : List Bool → Type 0
Passes bs = Each (λ b. b ≡ true) bs

pub every_facts : (bs : List Bool) → every bs ≡ true → Passes bs
unfolding every
every_facts [] h = tt
every_facts (b ∷ bs) h = (and_left b (every bs) h, every_facts bs (and_right b (every bs) h))

pub every_holds : (bs : List Bool) → Passes bs → every bs ≡ true
unfolding every
every_holds [] e = refl
every_holds (b ∷ bs) e = rw (e.0, every_holds bs e.1)

-- test i fails; it computes where the list and i are written out
pub every_fails : (bs : List Bool) (i : ℕ) → get_or bs i true ≡ false → every bs ≡ false
unfolding every
every_fails [] i h = true-false refl h
every_fails (b ∷ bs) zero h = rw h
every_fails (true ∷ bs) (suc i) h = every_fails bs i h
every_fails (false ∷ bs) (suc i) h = refl
