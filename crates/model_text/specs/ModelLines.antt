-- The latch lines of a transition text (R5.6). One with too few or too many fields, a number that cannot be read or a wrong initializer is
-- refused with 8 (R9.8).
use Rattle.std.specs.Prelude.{ℕ, Bool, false, ◌||◌, List, [], ◌∷◌, eqb, Option, Some, None}
use Rattle.lists.specs.Quoted.{bytes}
use Rattle.lists.specs.Answer.{Answer, got, refused, unless, and_then}
use Rattle.lists.specs.Parts.{Bytes}
use Rattle.scan.specs.Same.{same_bytes}
use Rattle.text.specs.declared.Reader.TheVariants.{Transition}
use Rattle.text.specs.Numbers.{number_of}
use Rattle.text.specs.Fields.{fields_of}
use Rattle.model.specs.declared.AigerLatch.{AigerLatch}
use Rattle.circuit_lines.specs.SectionLines.{readable}

-- R5.6: the number is n
abbrev pub is_number : Option ℕ → ℕ → Bool
is_number (Some v) n = eqb v n
is_number None n = false

-- R5.6: an initializer of the latch `current`: the one byte 48 or 49, or a number that is its literal
abbrev pub initializer : ℕ → Bytes → Bool
initializer current f = same_bytes f (bytes "0") || (same_bytes f (bytes "1") || is_number (number_of Transition f) current)

-- R9.8: a latch: its literal and its next literal, both readable
abbrev pub latch_from : Bytes → Bytes → Answer AigerLatch
latch_from c n = and_then (readable (number_of Transition c)) (λ current. and_then (readable (number_of Transition n)) (λ next. got (record { current = current; next = next })))

-- R9.8: two fields, or three with an initializer
abbrev pub latch_fields : List Bytes → Answer AigerLatch
latch_fields [] = refused 8
latch_fields (c ∷ []) = refused 8
latch_fields (c ∷ n ∷ []) = latch_from c n
latch_fields (c ∷ n ∷ i ∷ []) = and_then (latch_from c n) (λ l. unless 8 (initializer l.current i) (got l))
latch_fields (c ∷ n ∷ i ∷ f ∷ fs) = refused 8

-- R9.8: the line of a latch
abbrev pub latch_line : Bytes → Answer AigerLatch
latch_line l = latch_fields (fields_of l)
