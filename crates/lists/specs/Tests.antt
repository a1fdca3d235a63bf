-- Tests of all elements of a list, and lists of tests: how limits are put together.
use Rattle.std.specs.Prelude.{ℕ, suc, List, [], ◌∷◌, Bool, true, false, ◌&&◌, ◌||◌}

module _ {A : Type 0} where
  -- every element passes the test
  abbrev pub all : (A → Bool) → List A → Bool
  all p [] = true
  all p (x ∷ xs) = p x && all p xs

  -- some element passes the test
  abbrev pub any : (A → Bool) → List A → Bool
  any p [] = false
  any p (x ∷ xs) = p x || any p xs

  -- every element passes the test of its number; the first one has the number n
  abbrev pub all_from : (ℕ → A → Bool) → ℕ → List A → Bool
  all_from p n [] = true
  all_from p n (x ∷ xs) = p n x && all_from p (suc n) xs

  -- the statement P holds of every element
  abbrev pub Each : (A → Type 0) → List A → Type 0
  Each P [] = Unit {0}
  Each P (x ∷ xs) = P x × Each P xs

-- every test of a list of tests passes: limits that hold together
unfoldable pub every : List Bool → Bool
every [] = true
every (b ∷ bs) = b && every bs
