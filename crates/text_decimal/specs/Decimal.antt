-- The digits that write a number.
use Rattle.std.specs.Prelude.{ℕ, zero, suc, ◌+◌, ◌/◌, ◌%◌, [], ◌∷◌, ◌++◌, Bool, true, false, ltb}
use Rattle.lists.specs.Parts.{Bytes}

-- the bytes 48 to 57 are the digits 0 to 9: the one digit of n, or the digits of n / 10 and after them the last digit of n
-- (`digits` is a function, so that the checker computes no more digits than n has)
abbrev pub one_or_more : Bool → ℕ → (ℕ → Bytes) → Bytes
one_or_more true n digits = (48 + n) ∷ []
one_or_more false n digits = digits (n / 10) ++ ((48 + n % 10) ∷ [])

-- the digits of n, where suc k digits are enough
abbrev pub digits_in : ℕ → ℕ → Bytes
digits_in zero n = (48 + n % 10) ∷ []
digits_in (suc k) n = one_or_more (ltb n 10) n (digits_in k)

-- R0.5: the decimal digits of n without leading zeros; n + 1 digits are always enough
unfoldable pub decimal : ℕ → Bytes
decimal n = digits_in n n
