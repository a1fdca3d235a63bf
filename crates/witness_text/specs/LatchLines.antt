-- The latch lines of a witness text (R4.7). One that has too few or too many fields, or one that is no number, is refused with 8 (R9.8).
use Rattle.std.specs.Prelude.{ℕ, List, [], ◌∷◌, Option, Some, None}
use Rattle.lists.specs.Answer.{Answer, got, refused}
use Rattle.lists.specs.Parts.{Bytes}
use Rattle.text.specs.declared.Reader.TheVariants.{Witness}
use Rattle.text.specs.Fields.{fields_of}
use Rattle.text.specs.Literals.{numbers_of}
use Rattle.witness_text.specs.declared.Latch.{Latch}

-- a latch from its literal, its next literal and its reset
abbrev pub latch_from : ℕ → ℕ → ℕ → Latch
latch_from current next reset = record { current = current; next = next; reset = reset }

-- R4.7: a latch from two or three numbers: its literal, its next literal and its reset, which is 0 where there is no third
abbrev pub latch_numbers : Option (List ℕ) → Answer Latch
latch_numbers None = refused 8
latch_numbers (Some []) = refused 8
latch_numbers (Some (c ∷ [])) = refused 8
latch_numbers (Some (c ∷ n ∷ [])) = got (latch_from c n 0)
latch_numbers (Some (c ∷ n ∷ r ∷ [])) = got (latch_from c n r)
latch_numbers (Some (c ∷ n ∷ r ∷ m ∷ ms)) = refused 8

-- R9.8: the line of a latch
abbrev pub latch_line : Bytes → Answer Latch
latch_line l = latch_numbers (numbers_of Witness (fields_of l))
