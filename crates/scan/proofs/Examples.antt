-- Worked examples of the definitions, at the limits of each test.
use mathlib.Core.Path.{◌≡◌, refl}
use mathlib.Core.Bool.{true, false}
use mathlib.Core.List.{[], ◌∷◌, map}
use Rattle.lists.specs.Quoted.{bytes}
use Rattle.scan.specs.Spans.{span, in_line}
use Rattle.scan.specs.Allowed.{is_ascii, is_witness_byte, ends_in10}
use Rattle.scan.specs.Same.{same_bytes, begins_with}

pub line-bytes : map in_line (bytes "\t\n\u{b}\r") ≡ true ∷ false ∷ true ∷ true ∷ []
line-bytes = refl

pub ascii_bytes : map is_ascii (0 ∷ 13 ∷ 127 ∷ 128 ∷ 255 ∷ []) ≡ true ∷ true ∷ true ∷ false ∷ false ∷ []
ascii_bytes = refl

pub witness-bytes : map is_witness_byte (0 ∷ 10 ∷ 12 ∷ 13 ∷ 14 ∷ 127 ∷ 128 ∷ []) ≡ true ∷ true ∷ true ∷ false ∷ true ∷ true ∷ false ∷ []
witness-bytes = refl

pub ends : map ends_in10 ([] ∷ bytes "\n" ∷ bytes "\na" ∷ bytes "a\n" ∷ []) ≡ false ∷ true ∷ false ∷ true ∷ []
ends = refl

pub two_in_line : span in_line (bytes "ab\nc") ≡ 2
two_in_line = refl

-- neither a beginning nor a longer word is the same
pub same-words : map (same_bytes (bytes "aa")) (bytes "aa" ∷ bytes "a" ∷ bytes "aag" ∷ bytes "ab" ∷ []) ≡ true ∷ false ∷ false ∷ false ∷ []
same-words = refl

-- `= 6` begins with `= `, and `=6` and `=` do not; every word begins with the empty one
pub beginnings : map (λ s. begins_with s (bytes "= ")) (bytes "= 6" ∷ bytes "=6" ∷ bytes "=" ∷ []) ≡ true ∷ false ∷ false ∷ []
beginnings = refl

pub empty_beginning : begins_with [] [] ≡ true
empty_beginning = refl
