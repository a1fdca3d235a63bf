-- Laws of `same_bytes` and `begins_with`: std's word for the second, and what the answers mean.
use Prim.Native.Nat.{ℕ}
use mathlib.Core.Path.{◌≡◌, refl, ap}
use mathlib.Core.List.{List, [], ◌∷◌, ◌++◌}
use mathlib.Core.Bool.{true}
use borrow.Author.Tests.{eq-eqb, eqb-true}
use lib.ListN.{length, drop}
use lib.Dec.{eqb}
use Rattle.std.specs.List.{starts_with}
use Rattle.lists.proofs.BoolLaws.{true-false, and_left, and_right, eqb_swap}
use Rattle.scan.specs.Same.{same_bytes, begins_with}

-- std's `starts_with`, which takes the word's bytes first
pub begins-starts : (s w : List ℕ) → starts_with eqb s w ≡ begins_with s w
begins-starts s [] = refl
begins-starts [] (y ∷ ys) = refl
begins-starts (x ∷ xs) (y ∷ ys) = rw (eqb_swap y x, begins-starts xs ys)

-- ---- what the answers mean

pub same_self : (a : List ℕ) → same_bytes a a ≡ true
same_self [] = refl
same_self (x ∷ xs) = simp (eq-eqb x x refl) (same_self xs)

pub same-is : (a b : List ℕ) → same_bytes a b ≡ true → a ≡ b
same-is [] [] h = refl
same-is [] (y ∷ ys) h = true-false h refl
same-is (x ∷ xs) [] h = true-false h refl
same-is (x ∷ xs) (y ∷ ys) h =
    let e : x ≡ y = eqb-true x y (and_left (eqb x y) (same_bytes xs ys) h) in
    rw (e, same-is xs ys (and_right (eqb x y) (same_bytes xs ys) h))

pub begins-front : (w r : List ℕ) → begins_with (w ++ r) w ≡ true
begins-front [] [] = refl
begins-front [] (x ∷ r) = refl
begins-front (x ∷ w) r = simp (eq-eqb x x refl) (begins-front w r)

pub begins-is : (s w : List ℕ) → begins_with s w ≡ true → s ≡ w ++ drop (length w) s
begins-is s [] h = refl
begins-is [] (y ∷ ys) h = true-false h refl
begins-is (x ∷ xs) (y ∷ ys) h =
    let e : x ≡ y = eqb-true x y (and_left (eqb x y) (begins_with xs ys) h) in
    rw e (ap (λ (l : List ℕ). y ∷ l) (begins-is xs ys (and_right (eqb x y) (begins_with xs ys) h)))
