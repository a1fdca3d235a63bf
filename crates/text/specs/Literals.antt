-- The numbers of a line (R1, R2), and `take_literal` (R2.3, R2.4).
use Rattle.std.specs.Prelude.{ℕ, ◌+◌, List, [], ◌∷◌, drop, Option, Some, None}
use Rattle.lists.specs.Parts.{Bytes}
use Rattle.text.specs.declared.Reader.{Reader}
use Rattle.text.specs.Numbers.{number_of}
use Rattle.text.specs.Lines.{lines_of, line_size}
use Rattle.text.specs.Fields.{fields_of}

-- a field's number in front of the numbers of the fields after it
abbrev pub with_number : Option ℕ → Option (List ℕ) → Option (List ℕ)
with_number None ns = None
with_number (Some v) None = None
with_number (Some v) (Some vs) = Some (v ∷ vs)

-- R1: the numbers that some fields write; none where one of them is unreadable
abbrev pub numbers_of : Reader → List Bytes → Option (List ℕ)
numbers_of reader [] = Some []
numbers_of reader (f ∷ fs) = with_number (number_of reader f) (numbers_of reader fs)

-- R9.8: the number of a line that has one readable number; none, two or an unreadable one make it unreadable
abbrev pub one_of : Option (List ℕ) → Option ℕ
one_of None = None
one_of (Some []) = None
one_of (Some (v ∷ [])) = Some v
one_of (Some (v ∷ w ∷ vs)) = None

-- R9.8: the literal of a line that has one number and nothing else
abbrev pub literal_of : Reader → Bytes → Option ℕ
literal_of reader l = one_of (numbers_of reader (fields_of l))

-- R2.4, R9.8: the literal of the first of some lines; none where it is no literal or no line is left
abbrev pub first_literal : Reader → List Bytes → Option ℕ
first_literal reader [] = None
first_literal reader (l ∷ ls) = literal_of reader l

-- R2.3: the literal of a line, if it is one, and the place of the next line
pub record LineLiteral : Type 0 where
  pub value : Option ℕ
  pub next : ℕ

-- R2.3, R2.4: what `take_literal` answers at a place: behind the line there, taken or refused; where no line is left, the same place
abbrev pub literal_at : Reader → Bytes → ℕ → LineLiteral
literal_at reader s at = record { value = first_literal reader (lines_of (drop at s)); next = at + line_size (drop at s) }
