-- For the contracts of inner functions: fields behind others, and the lines of literals and gates that are printed for variables in a row.
use Rattle.std.specs.Prelude.{ℕ, zero, suc, ◌*◌, List, [], ◌∷◌, map}
use Rattle.lists.specs.Parts.{Bytes}
use Rattle.lists.specs.Words.{words_of}
use Rattle.text_decimal.specs.Decimal.{decimal}
use Rattle.text_decimal.specs.Printed.{number_line}

-- the numbers that a list stands for, each with a space before it
abbrev pub fields_text : {A : Type 0} → (A → ℕ) → List A → Bytes
fields_text value xs = words_of (λ x. 32 ∷ decimal (value x)) xs

-- a line for each number
abbrev pub literal_lines : List ℕ → List Bytes
literal_lines ns = map (λ n. number_line (n ∷ [])) ns

-- the literals of so many variables in a row
abbrev pub literals_from : ℕ → ℕ → List ℕ
literals_from first zero = []
literals_from first (suc count) = 2 * first ∷ literals_from (suc first) count

-- the gate lines of variables in a row, whose operands are the words 0 and 1, the words 2 and 3, ..; a word that is left over is not read
abbrev pub gate_lines : ℕ → List ℕ → List Bytes
gate_lines first [] = []
gate_lines first (y ∷ []) = []
gate_lines first (y ∷ z ∷ words) = number_line (2 * first ∷ y ∷ z ∷ []) ∷ gate_lines (suc first) words
