-- Worked examples of the definitions: the readers' case R13.7, the limits of each test, and what is easily misread.
use Rattle.std.specs.Prelude.{Some, None}
use mathlib.Core.Path.{◌≡◌, refl}
use Prim.Native.Nat.{ℕ}
use mathlib.Core.Bool.{true, false}
use mathlib.Core.List.{List, [], ◌∷◌, map}
use Rattle.lists.specs.Quoted.{bytes}
use Rattle.lists.specs.Parts.{Bytes}
use Rattle.lists.specs.Tests.{every}
use Rattle.text.specs.declared.Reader.TheVariants.{Transition, Witness}
use Rattle.text.specs.Numbers.{is_digit, number_of}
use Rattle.text.specs.Lines.{lines_of}
use Rattle.text.specs.Fields.{is_blank, fields_of, first_field, has_header_word}
use Rattle.text.specs.Literals.{LineLiteral, literal_at}
use Rattle.text.specs.Texts.{limited, free, good_text}

-- ---- numbers

-- `+7` is 7
pub plus_seven : number_of Transition (bytes "+7") ≡ Some 7
unfolding number_of
plus_seven = refl

pub plus_seven_witness : number_of Witness (bytes "+7") ≡ Some 7
unfolding number_of
plus_seven_witness = refl

-- `07` is a number for the transition reader only
pub zero_seven_witness : number_of Witness (bytes "07") ≡ None
unfolding number_of
zero_seven_witness = refl

pub zero_seven_transition : number_of Transition (bytes "07") ≡ Some 7
unfolding number_of
zero_seven_transition = refl

-- bytes 48 to 57 are digits
pub digit_bytes : map is_digit (bytes "/09:") ≡ false ∷ true ∷ true ∷ false ∷ []
digit_bytes = refl

-- `0`, `00`, `+0`, `+07`, the empty field, `+`, `++7`, `-7`, `7+`, ` 7`
abbrev pub odd-numbers : List Bytes
odd-numbers =
    (bytes "0") ∷ bytes "00" ∷ bytes "+0" ∷ bytes "+07" ∷ [] ∷ bytes "+" ∷ bytes "++7" ∷ bytes "-7"
    ∷ bytes "7+" ∷ bytes " 7" ∷ []

pub odd_transition : map (number_of Transition) odd-numbers
    ≡ Some 0 ∷ Some 0 ∷ Some 0 ∷ Some 7 ∷ None ∷ None ∷ None ∷ None ∷ None ∷ None ∷ []
unfolding number_of
odd_transition = refl

pub odd-witness : map (number_of Witness) odd-numbers
    ≡ Some 0 ∷ None ∷ Some 0 ∷ Some 7 ∷ None ∷ None ∷ None ∷ None ∷ None ∷ None ∷ []
unfolding number_of
odd-witness = refl

-- 18446744073709551615 is the last number that is read, with zeros in front too, and 18446744073709551616 the first that is not
abbrev pub largest : Bytes
largest = bytes "18446744073709551615"

abbrev pub too_large : Bytes
too_large = bytes "18446744073709551616"

pub largest_read : map (number_of Transition) (largest ∷ (48 ∷ 48 ∷ largest) ∷ too_large ∷ []) ≡ Some 18446744073709551615 ∷ Some 18446744073709551615 ∷ None ∷ []
unfolding number_of
largest_read = refl

pub largest_read_witness : map (number_of Witness) (largest ∷ (48 ∷ 48 ∷ largest) ∷ too_large ∷ []) ≡ Some 18446744073709551615 ∷ None ∷ None ∷ []
unfolding number_of
largest_read_witness = refl

-- ---- lines

-- no line in no bytes; a final byte 10 begins no line; a last line may lack it; an empty line is a line; byte 13 stays in its line
pub no_bytes : lines_of [] ≡ []
no_bytes = refl

pub final_newline : lines_of (bytes "a\n") ≡ bytes "a" ∷ []
final_newline = refl

pub no_newline : lines_of (bytes "a\nb") ≡ bytes "a" ∷ bytes "b" ∷ []
no_newline = refl

pub empty-lines : lines_of (bytes "\n\n") ≡ [] ∷ [] ∷ []
empty-lines = refl

pub return_kept : lines_of (bytes "a\r\n") ≡ bytes "a\r" ∷ []
return_kept = refl

-- ---- fields

pub blank_bytes : map is_blank (0 ∷ 8 ∷ 9 ∷ 10 ∷ 11 ∷ 12 ∷ 13 ∷ 14 ∷ 28 ∷ 31 ∷ 32 ∷ 33 ∷ 127 ∷ [])
    ≡ false ∷ false ∷ true ∷ true ∷ true ∷ true ∷ true ∷ false ∷ false ∷ false ∷ true ∷ false ∷ false ∷ []
blank_bytes = refl

pub separated : fields_of (bytes " 1\t\u{b}2\u{1f}3 ") ≡ bytes "1" ∷ bytes "2\u{1f}3" ∷ []
separated = refl

pub no_field : map first_field ([] ∷ bytes " \t" ∷ []) ≡ [] ∷ [] ∷ []
no_field = refl

-- `aag`, ` aag 1`, `aag1`, `aa`, `AAG`, the empty line
pub header_words : map has_header_word (bytes "aag" ∷ bytes " aag 1" ∷ bytes "aag1" ∷ bytes "aa" ∷ bytes "AAG" ∷ [] ∷ [])
    ≡ true ∷ true ∷ false ∷ false ∷ false ∷ false ∷ []
header_words = refl

-- ---- literals: the text `x`, byte 10, an empty line, `4`, byte 10, `y`, from each place

abbrev pub four_lines : Bytes
four_lines = bytes "x\n\n4\ny"

-- no literal, and the place n after it
abbrev pub refused_to : ℕ → LineLiteral
refused_to n = record { value = None; next = n }

-- the place moves past a line that is refused, also past an empty one and a last one without byte 10, and stays at and past the end
pub literals : map (literal_at Witness four_lines) (0 ∷ 2 ∷ 3 ∷ 5 ∷ 6 ∷ 9 ∷ [])
    ≡ refused_to 2 ∷ refused_to 3 ∷ record { value = Some 4; next = 5 } ∷ refused_to 6 ∷ refused_to 6 ∷ refused_to 9 ∷ []
unfolding number_of
literals = refl

-- two numbers are one too many
pub two_numbers : literal_at Transition (bytes "4 4") 0 ≡ refused_to 3
unfolding number_of
two_numbers = refl

-- ---- texts: the empty one, byte 10, byte 97 without byte 10, bytes 127 and 10, byte 13, byte 128

abbrev pub texts : List Bytes
texts = [] ∷ bytes "\n" ∷ bytes "\na" ∷ bytes "\u{7f}\n" ∷ bytes "\r\n" ∷ bytes "\u{80}\n" ∷ []

pub texts_transition : map (good_text limited Transition) texts ≡ true ∷ true ∷ true ∷ true ∷ true ∷ false ∷ []
unfolding good_text every
texts_transition = refl

pub texts_witness : map (good_text limited Witness) texts ≡ false ∷ true ∷ false ∷ true ∷ false ∷ false ∷ []
unfolding good_text every
texts_witness = refl

pub texts_free : map (good_text free Witness) texts ≡ false ∷ true ∷ false ∷ true ∷ false ∷ false ∷ []
unfolding good_text every
texts_free = refl
