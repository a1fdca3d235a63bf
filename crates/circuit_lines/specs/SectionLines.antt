-- The lines that are alike in both texts but for the number rule (R1.3, R1.4): a header, a literal, a gate. A section line with too few
-- or too many fields, or with a field that is no number, is refused with 8 (R9.8).
use Rattle.std.specs.Prelude.{ℕ, cond, List, [], ◌∷◌, drop, Option, Some, None}
use Rattle.lists.specs.Answer.{Answer, got, refused}
use Rattle.lists.specs.Parts.{Bytes}
use Rattle.text.specs.declared.Reader.{Reader}
use Rattle.text.specs.Fields.{fields_of, has_header_word}
use Rattle.text.specs.Literals.{numbers_of, literal_of}
use Rattle.aiger.specs.declared.Gate.{Gate}
use Rattle.aiger.specs.Gates.{gate_from}

-- R9.4: the numbers of a header line: the word `aag`, then readable numbers alone; none where the line is no such line
abbrev pub header_numbers : Reader → Bytes → Option (List ℕ)
header_numbers reader l = cond (has_header_word l) (numbers_of reader (drop 1 (fields_of l))) None

-- R9.4: those of a text's first line; none where there is no line
abbrev pub first_numbers : Reader → List Bytes → Option (List ℕ)
first_numbers reader [] = None
first_numbers reader (l ∷ ls) = header_numbers reader l

-- R9.8: a number; refused where it could not be read
abbrev pub readable : Option ℕ → Answer ℕ
readable (Some v) = got v
readable None = refused 8

-- R9.8: the line of an input, an output, a bad or a constraint: one number
abbrev pub literal_line : Reader → Bytes → Answer ℕ
literal_line reader l = readable (literal_of reader l)

-- R9.8: a gate: three numbers, its output and its two operands
abbrev pub gate_numbers : Option (List ℕ) → Answer Gate
gate_numbers None = refused 8
gate_numbers (Some []) = refused 8
gate_numbers (Some (o ∷ [])) = refused 8
gate_numbers (Some (o ∷ a ∷ [])) = refused 8
gate_numbers (Some (o ∷ a ∷ b ∷ [])) = got (gate_from o a b)
gate_numbers (Some (o ∷ a ∷ b ∷ n ∷ ns)) = refused 8

-- R9.8: the line of a gate
abbrev pub gate_line : Reader → Bytes → Answer Gate
gate_line reader l = gate_numbers (numbers_of reader (fields_of l))
