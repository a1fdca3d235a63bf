-- First appearances: composed variables (R8.4) and shared gates (R8.5) are numbered by them.
use Rattle.std.specs.Prelude.{ℕ, zero, suc, Bool, cond, List, [], ◌∷◌, ◌++◌}
use Rattle.lists.specs.Tests.{any}

module _ {A : Type 0} where
  -- the place of x: how many elements stand in front of the first that is the same; the number of all where none is
  abbrev pub place : (A → A → Bool) → A → List A → ℕ
  place same x [] = zero
  place same x (y ∷ ys) = cond (same x y) zero (suc (place same x ys))

  -- x at the end, unless one that is the same stands there already
  abbrev pub joined : (A → A → Bool) → A → List A → List A
  joined same x xs = cond (any (same x) xs) xs (xs ++ (x ∷ []))

  -- R8.4: xs, and behind it what appears for the first time in ys, in the order of its appearance
  abbrev pub appearing : (A → A → Bool) → List A → List A → List A
  appearing same xs [] = xs
  appearing same xs (y ∷ ys) = appearing same (joined same y xs) ys
