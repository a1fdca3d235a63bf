-- The number reader (R1): the number that a field of bytes writes.
use Rattle.std.specs.Prelude.{ℕ, ◌+◌, ◌-◌, ◌*◌, ◌^◌, [], ◌∷◌, Bool, false, cond, ◌&&◌, ltb, leb, eqb, Option, Some, None}
use Rattle.lists.specs.Parts.{Bytes}
use Rattle.lists.specs.Tests.{all}
use Rattle.text.specs.declared.Reader.{Reader}
use Rattle.text.specs.declared.Reader.TheVariants.{Transition, Witness}

-- R0.5: the bytes 48 to 57 are the digits 0 to 9
abbrev pub is_digit : ℕ → Bool
is_digit b = leb 48 b && leb b 57

-- R0.5: the number whose first digits write v and whose other digits are the bytes, in base ten
abbrev pub tenfold : ℕ → Bytes → ℕ
tenfold v [] = v
tenfold v (b ∷ bs) = tenfold (v * 10 + (b - 48)) bs

-- R1.1: that number, where all bytes are digits and it is less than 2^64
abbrev pub digits_after : ℕ → Bytes → Option ℕ
digits_after v bs = cond (all is_digit bs && ltb (tenfold v bs) (2 ^ 64)) (Some (tenfold v bs)) None

-- R1.1: the number of a field of digits, at least one
abbrev pub digits_of : Bytes → Option ℕ
digits_of [] = None
digits_of (b ∷ bs) = digits_after 0 (b ∷ bs)

-- R1.2: a field without the plus sign (byte 43) in front, if it has one
abbrev pub unsigned : Bytes → Bytes
unsigned [] = []
unsigned (b ∷ bs) = cond (eqb b 43) bs (b ∷ bs)

-- R1.3: two bytes or more, of which the first is `0` (byte 48)
abbrev pub long_zero : Bytes → Bool
long_zero [] = false
long_zero (b ∷ []) = false
long_zero (b ∷ c ∷ bs) = eqb b 48

-- R1: the number that a field writes for a reader; only the witness reader has R1.3. Higher layers use it through laws and never open it.
unfoldable pub number_of : Reader → Bytes → Option ℕ
number_of Transition f = digits_of (unsigned f)
number_of Witness f = cond (long_zero f) None (digits_of (unsigned f))
