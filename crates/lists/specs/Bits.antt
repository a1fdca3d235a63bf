-- The bits of a word, lowest first (R6.2): states, input words and outputs are such words.
use Rattle.std.specs.Prelude.{ℕ, zero, suc, ◌+◌, ◌*◌, ◌/◌, ◌%◌, Bool, true, false, List, [], ◌∷◌, eqb}

-- x is odd: its lowest bit is set
abbrev pub odd : ℕ → Bool
odd x = eqb (x % 2) 1

-- R6.2: the n lowest bits of x, lowest first
abbrev pub bits : ℕ → ℕ → List Bool
bits zero x = []
bits (suc n) x = odd x ∷ bits n (x / 2)

-- a bit as a number
abbrev pub bit : Bool → ℕ
bit true = 1
bit false = 0

-- R6.2: the number that has these bits, lowest first
abbrev pub packed : List Bool → ℕ
packed [] = 0
packed (b ∷ bs) = bit b + 2 * packed bs
