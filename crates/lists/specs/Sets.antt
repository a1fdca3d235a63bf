-- Which numbers stand in a list (R4.12, R5.4), whether a list rises (R9.13, R9.14), ascending sets (R3.3, R8.7), and sets of numbers as
-- bits of words.
use Rattle.std.specs.Prelude.{ℕ, ◌/◌, ◌%◌, ◌^◌, ◌<◌, Bool, true, false, not, cond, ◌&&◌, ◌||◌, List, [], ◌∷◌, ◌≡◌, eqb, ltb, get_or, set}
use Rattle.std.specs.Int.Bits.{bit_or}
use Rattle.lists.specs.Bits.{odd}

-- x is an element
abbrev pub member : ℕ → List ℕ → Bool
member x [] = false
member x (y ∷ ys) = eqb x y || member x ys

-- R4.12, R5.4: no element stands twice
abbrev pub distinct : List ℕ → Bool
distinct [] = true
distinct (x ∷ xs) = not (member x xs) && distinct xs

module _ {A : Type 0} where
  -- each element comes before the next
  abbrev pub rising_by : (A → A → Bool) → List A → Bool
  rising_by before [] = true
  rising_by before (x ∷ []) = true
  rising_by before (x ∷ y ∷ l) = before x y && rising_by before (y ∷ l)

-- R9.13, R9.14: strictly rising: each number is below the next
abbrev pub rising : List ℕ → Bool
rising l = rising_by ltb l

-- x put into an ascending list, once
abbrev pub put_in : ℕ → List ℕ → List ℕ
put_in x [] = x ∷ []
put_in x (y ∷ ys) = cond (ltb x y) (x ∷ y ∷ ys) (cond (eqb x y) (y ∷ ys) (y ∷ put_in x ys))

-- the elements of a list in rising order, each once (R3.3, R8.7)
abbrev pub set_of : List ℕ → List ℕ
set_of [] = []
set_of (x ∷ xs) = put_in x (set_of xs)

-- f says which numbers below size stand in xs
pub record Marked (size : ℕ) (f : ℕ → Bool) (xs : List ℕ) : Type 0 where
  pub says : (k : ℕ) → k < size → f k ≡ member k xs

-- k is in the set: bit k of the words, 64 bits in each; false past their end
unfoldable pub holds : List ℕ → ℕ → Bool
holds ws k = odd (get_or ws (k / 64) 0 / 2 ^ (k % 64))

-- the words with bit k set; unchanged where k is past their end
unfoldable pub with_bit : List ℕ → ℕ → List ℕ
with_bit ws k = set ws (k / 64) (bit_or (get_or ws (k / 64) 0) (2 ^ (k % 64)))
