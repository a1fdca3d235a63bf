-- Laws of `place` on numbers: what stands at the place of a number is the number, and what stands in a list is found there.
use Prim.Native.Nat.{ℕ, zero, suc, ◌<◌}
use mathlib.Core.Path.{◌≡◌, refl, sym}
use mathlib.Core.Bool.{Bool, true, false, ◌||◌}
use mathlib.Core.List.{List, [], ◌∷◌}
use native.Mathlib.Omega.{arith}
use borrow.Author.Tests.{eqb-true, eq-eqb}
use lib.Dec.{eqb}
use lib.ListN.{length, get_or}
use Rattle.lists.specs.Tests.{any}
use Rattle.lists.specs.Firsts.{place}
use Rattle.lists.proofs.FirstLaws.{place-finds}

pub place_at : (x : ℕ) (xs : List ℕ) → any (eqb x) xs ≡ true → get_or xs (place eqb x xs) 0 ≡ x
place_at x xs h = sym (eqb-true x (get_or xs (place eqb x xs) 0) (place-finds eqb x 0 xs h))

later : (q b : Bool) → b ≡ true → (q || b) ≡ true
later true b h = refl
later false b h = h

pub any_at : (x : ℕ) (xs : List ℕ) (n : ℕ) → n < length xs → get_or xs n 0 ≡ x → any (eqb x) xs ≡ true
any_at x [] n h e = absurd (omega arith)
any_at x (y ∷ ys) zero h e = rw (eq-eqb x y (sym e))
any_at x (y ∷ ys) (suc n) h e = later (eqb x y) (any (eqb x) ys) (any_at x ys n (omega arith) e)
