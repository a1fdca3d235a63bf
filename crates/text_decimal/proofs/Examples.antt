-- Worked examples of the definitions. (`decimal-zero` of DecimalLaws is the first.)
use Rattle.std.specs.Prelude.{Some, None}
use mathlib.Core.Path.{◌≡◌, refl}
use mathlib.Core.List.{[], ◌∷◌}
use Rattle.lists.specs.Quoted.{bytes}
use Rattle.text_decimal.specs.Decimal.{decimal}
use Rattle.text_decimal.specs.Printed.{number_line, text_of}
use Rattle.text_decimal.specs.Inner.Writing.{written, written_at}

pub two_digits : decimal 10 ≡ bytes "10"
unfolding decimal
two_digits = refl

pub two_million : decimal 2000000 ≡ bytes "2000000"
unfolding decimal
two_million = refl

-- 2^64 - 1
pub largest_word : decimal 18446744073709551615 ≡ bytes "18446744073709551615"
unfolding decimal
largest_word = refl

-- single spaces between the numbers of a line, and byte 10 after each line: `2 10`, and an empty line
pub two_numbers : number_line (2 ∷ 10 ∷ []) ≡ bytes "2 10"
unfolding decimal
two_numbers = refl

pub two_lines : text_of (number_line (2 ∷ 10 ∷ []) ∷ [] ∷ []) ≡ bytes "2 10\n\n"
unfolding decimal
two_lines = refl

-- what fits, up to the last place, is written; what does not changes nothing
pub fits : written (1 ∷ 2 ∷ 3 ∷ []) 1 (8 ∷ 9 ∷ []) ≡ 1 ∷ 8 ∷ 9 ∷ []
unfolding written
fits = refl

pub fits-answer : written_at 3 1 (8 ∷ 9 ∷ []) ≡ Some 3
unfolding written_at
fits-answer = refl

pub too_long : written (1 ∷ 2 ∷ 3 ∷ []) 2 (8 ∷ 9 ∷ []) ≡ 1 ∷ 2 ∷ 3 ∷ []
unfolding written
too_long = refl

pub too_long_answer : written_at 3 2 (8 ∷ 9 ∷ []) ≡ None
unfolding written_at
too_long_answer = refl
