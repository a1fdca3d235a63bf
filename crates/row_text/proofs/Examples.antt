-- Worked examples of the row program's definitions: the first line, and R14.6.
use mathlib.Core.Path.{◌≡◌, refl}
use mathlib.Core.List.{[], ◌∷◌}
use Rattle.lists.specs.Quoted.{bytes}
use Rattle.lists.specs.Answer.{got, refused}
use Rattle.text.specs.Numbers.{number_of}
use Rattle.text_decimal.specs.Decimal.{decimal}
use Rattle.row_text.specs.RowProgram.{first_line, after_line, pieces, numbers_of, row_answer, printed, row_text}

-- ---- the first line

-- `1 1` and byte 10, then `a`
line : first_line (bytes "1 1\na") ≡ bytes "1 1"
line = refl

after : after_line (bytes "1 1\na") ≡ bytes "a"
after = refl

-- a first line without byte 10: the model is empty
no_line_feed : after_line (bytes "1 1") ≡ []
no_line_feed = refl

-- ---- its pieces

one_piece : pieces (bytes "12") ≡ bytes "12" ∷ []
one_piece = refl

two_pieces : pieces (bytes "1 2") ≡ bytes "1" ∷ bytes "2" ∷ []
two_pieces = refl

-- nothing stands between two spaces, before the first or after the last
double_space : pieces (bytes "1  2") ≡ bytes "1" ∷ [] ∷ bytes "2" ∷ []
double_space = refl

trailing_space : pieces (bytes "1 ") ≡ bytes "1" ∷ [] ∷ []
trailing_space = refl

leading_space : pieces (bytes " 1") ≡ [] ∷ bytes "1" ∷ []
leading_space = refl

empty-line : pieces [] ≡ [] ∷ []
empty-line = refl

-- ---- its numbers

numbers : numbers_of (pieces (bytes "1 0 25")) ≡ got (1 ∷ 0 ∷ 25 ∷ [])
unfolding number_of
numbers = refl

-- the transition reader's numbers: `+7` and `07` are 7
plus : numbers_of (pieces (bytes "+7")) ≡ got (7 ∷ [])
unfolding number_of
plus = refl

zero_in_front : numbers_of (pieces (bytes "07")) ≡ got (7 ∷ [])
unfolding number_of
zero_in_front = refl

-- 14: an empty line, a double, a trailing and a leading space, a tab, byte 13, a letter, a byte above 127
empty-refused : numbers_of (pieces []) ≡ refused 14
unfolding number_of
empty-refused = refl

double_refused : numbers_of (pieces (bytes "1  2")) ≡ refused 14
unfolding number_of
double_refused = refl

trailing_refused : numbers_of (pieces (bytes "1 ")) ≡ refused 14
unfolding number_of
trailing_refused = refl

leading_refused : numbers_of (pieces (bytes " 1")) ≡ refused 14
unfolding number_of
leading_refused = refl

tab_refused : numbers_of (pieces (bytes "1\t1")) ≡ refused 14
unfolding number_of
tab_refused = refl

return_refused : numbers_of (pieces (bytes "1\r")) ≡ refused 14
unfolding number_of
return_refused = refl

letter_refused : numbers_of (pieces (bytes "1 a")) ≡ refused 14
unfolding number_of
letter_refused = refl

high_refused : numbers_of (pieces (bytes "1È")) ≡ refused 14
unfolding number_of
high_refused = refl

-- 2^64 - 1 is read, and 2^64 is refused
largest : numbers_of (pieces (bytes "18446744073709551615")) ≡ got (18446744073709551615 ∷ [])
unfolding number_of
largest = refl

too_large : numbers_of (pieces (bytes "18446744073709551616")) ≡ refused 14
unfolding number_of
too_large = refl

-- ---- what is printed

-- R14.6: the five clauses of the row `1 1` of K
example : printed (got ((3 ∷ []) ∷ (3 ∷ 4 ∷ []) ∷ (1 ∷ 4 ∷ []) ∷ (0 ∷ 2 ∷ 5 ∷ []) ∷ (4 ∷ []) ∷ []))
    ≡ bytes "rows 5\n0 1 3\n1 2 3 4\n3 2 1 4\n5 3 0 2 5\n8 1 4\n"
unfolding decimal
example = refl

-- an empty clause has its offset and its length, and no clauses have the first line alone
empty-clause : printed (got ((0 ∷ []) ∷ [] ∷ [])) ≡ bytes "rows 2\n0 1 0\n1 0\n"
unfolding decimal
empty-clause = refl

no_clauses : printed (got []) ≡ bytes "rows 0\n"
unfolding decimal
no_clauses = refl

-- `refused 14`
refusal : printed (refused 14) ≡ bytes "refused 14\n"
unfolding decimal
refusal = refl

-- ---- the program

-- the empty input, and an input whose first line has another form: the model is not looked at
empty-input : row_text [] ≡ printed (refused 14)
unfolding row_text row_answer number_of
empty-input = refl

form_first : row_text (bytes "1 \nÈ") ≡ printed (refused 14)
unfolding row_text row_answer number_of
form_first = refl
