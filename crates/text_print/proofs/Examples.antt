-- Worked examples of the definitions.
use mathlib.Core.Path.{◌≡◌, refl}
use mathlib.Core.List.{[], ◌∷◌}
use native.Mathlib.Omega.{arith}
use Rattle.lists.specs.Quoted.{bytes}
use Rattle.lists.specs.Sets.{holds}
use Rattle.text_decimal.specs.Decimal.{decimal}
use Rattle.text_decimal.specs.Printed.{text_of}
use Rattle.text_print.specs.Inner.Prints.{capped, Prints}
use Rattle.text_print.specs.Inner.Lines.{fields_text, literal_lines, literals_from, gate_lines}
use Rattle.text_print.specs.Inner.Elements.{elements}

-- places up to 2^64 - 1 are kept, and those behind it become that number
pub place_kept : capped 18446744073709551615 ≡ 18446744073709551615
place_kept = refl

pub place-capped : capped 18446744073709551616 ≡ 18446744073709551615
place-capped = refl

-- two bytes that just fit, and the same bytes measured in an empty slice
pub two_printed : Prints (1 ∷ 2 ∷ 3 ∷ []) 1 (8 ∷ 9 ∷ []) (1 ∷ 8 ∷ 9 ∷ []) 3
two_printed = record { next = refl; stands = λ h. refl }

pub two_measured : Prints [] 1 (8 ∷ 9 ∷ []) [] 3
two_measured = record { next = refl; stands = λ h. absurd (omega arith) }

-- ` 6 40`, as fields behind another one
pub two_fields : fields_text (λ n. n) (6 ∷ 40 ∷ []) ≡ bytes " 6 40"
unfolding decimal
two_fields = refl

-- the variables 4 and 5: the lines `8` and `10`
pub two_literals : text_of (literal_lines (literals_from 4 2)) ≡ bytes "8\n10\n"
unfolding decimal
two_literals = refl

-- one gate, the line `6 4 3`; the third word is no pair
pub one_gate : text_of (gate_lines 3 (4 ∷ 3 ∷ 7 ∷ [])) ≡ bytes "6 4 3\n"
unfolding decimal
one_gate = refl

-- bits 0 and 2 of the first word, and bit 63 of the second
pub three_elements : elements (5 ∷ 9223372036854775808 ∷ []) ≡ 0 ∷ 2 ∷ 127 ∷ []
unfolding elements holds
three_elements = refl
