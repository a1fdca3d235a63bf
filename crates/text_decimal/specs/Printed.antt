-- Printed lines, as a composed text (R14.7) and the row program (R14.5) have them: a byte 32 between fields, a byte 10 at the end.
use Rattle.std.specs.Prelude.{ℕ, List, [], ◌∷◌, ◌++◌, map}
use Rattle.lists.specs.Parts.{Bytes}
use Rattle.text_decimal.specs.Decimal.{decimal}

-- fields with single spaces (byte 32) between them
abbrev pub spaced : List Bytes → Bytes
spaced [] = []
spaced (f ∷ []) = f
spaced (f ∷ g ∷ fs) = f ++ 32 ∷ spaced (g ∷ fs)

-- R0.5: a line of numbers
abbrev pub number_line : List ℕ → Bytes
number_line ns = spaced (map decimal ns)

-- lines, each with its byte 10
abbrev pub text_of : List Bytes → Bytes
text_of [] = []
text_of (l ∷ ls) = l ++ 10 ∷ text_of ls
