-- What is numbered by its first appearance: the numbers come in turn.
use Prim.Native.Nat.{ℕ, suc, ◌+◌, ◌-◌, ◌≤◌, max}
use mathlib.Core.Bool.{Bool, true, false, cond}
use mathlib.Core.List.{List, [], ◌∷◌, ◌++◌, map}
use mathlib.Core.Path.{◌≡◌, refl, sym, ap, subst, ◌∙◌}
use native.Mathlib.Omega.{arith}
use lib.ListN.{length, length-append}
use Rattle.lists.specs.Firsts.{place, joined, appearing}
use Rattle.lists.specs.Tests.{any}
use Rattle.lists.proofs.BoolLaws.{or_left, or_right}
use Rattle.lists.proofs.FirstLaws.{place_inside, place_outside, place-begins, appearing-begins, joined-any}
use Rattle.compose_gates.specs.Inner.Latches.{InTurn, met_in}

module _ {A : Type 0} (same : A → A → Bool) where
  -- the place of one that is not there, whatever stands behind the list
  place_none : (x : A) (xs ys : List A) → any (same x) xs ≡ false → place same x (xs ++ ys) ≡ length xs + place same x ys
  place_none x [] ys h = omega arith
  place_none x (y ∷ xs) ys h =
      let n : suc (length xs) + place same x ys ≡ suc (length xs + place same x ys) = omega arith in
      rw (or_left (same x y) (any (same x) xs) h, place_none x xs ys (or_right (same x y) (any (same x) xs) h), n)

  module _ (x : A) (xs : List A) where
    pub place-low : place same x xs ≤ length xs
    place-low = go (any (same x) xs) refl
      where
        go : (q : Bool) → any (same x) xs ≡ q → place same x xs ≤ length xs
        go true e = omega (arith, place_inside same x xs e)
        go false e = omega (arith, place_outside same x xs e)

    -- what joins a list is new there, or it stands there already
    pub joined_length : length (joined same x xs) ≡ max (length xs) (place same x xs + 1)
    joined_length = go (any (same x) xs) refl
      where
        go : (q : Bool) → any (same x) xs ≡ q → length (cond q xs (xs ++ x ∷ [])) ≡ max (length xs) (place same x xs + 1)
        go true e = omega (arith, place_inside same x xs e)
        go false e = omega (arith, place_outside same x xs e, length-append xs (x ∷ []))

    -- its place is that which it has there
    joined-place : same x x ≡ true → place same x (joined same x xs) ≡ place same x xs
    joined-place self = go (any (same x) xs) refl
      where
        go : (q : Bool) → any (same x) xs ≡ q → place same x (cond q xs (xs ++ x ∷ [])) ≡ place same x xs
        go true e = refl
        go false e =
            let zero-there : place same x (x ∷ []) ≡ 0 = rw self in
            omega (arith, place_none x xs (x ∷ []) e, place_outside same x xs e, zero-there)

  module _ (self : (x : A) → same x x ≡ true) (first : ℕ) where
    first-place : (e : A) (es xs : List A) → place same e (appearing same xs (e ∷ es)) ≡ place same e xs
    first-place e es xs =
        place-begins same e (joined same e xs) (appearing same xs (e ∷ es)) (appearing-begins same (joined same e xs) es) (joined-any same self e xs)
        ∙ joined-place e xs (self e)

    next-length : (e : A) (es xs : List A) → length (joined same e xs) ≡ max (length xs) (first + place same e (appearing same xs (e ∷ es)) - first + 1)
    next-length e es xs = omega (arith, joined_length e xs, first-place e es xs)

    -- numbers by first appearance come in turn, and there are as many as appear
    pub numbers_in_turn : (es xs : List A) → InTurn first (length xs) (map (λ e. first + place same e (appearing same xs es)) es)
    numbers_in_turn [] xs = tt
    numbers_in_turn (e ∷ es) xs = (
      omega arith,
      omega (arith, first-place e es xs, place-low e xs),
      subst (λ (n : ℕ). InTurn first n (map (λ b. first + place same b (appearing same (joined same e xs) es)) es)) (next-length e es xs) (numbers_in_turn es (joined same e xs)),
    )

    pub numbers_met : (es xs : List A) → met_in first (length xs) (map (λ e. first + place same e (appearing same xs es)) es) ≡ length (appearing same xs es)
    numbers_met [] xs = refl
    numbers_met (e ∷ es) xs =
        ap (λ (n : ℕ). met_in first n (map (λ b. first + place same b (appearing same (joined same e xs) es)) es)) (sym (next-length e es xs))
        ∙ numbers_met es (joined same e xs)
