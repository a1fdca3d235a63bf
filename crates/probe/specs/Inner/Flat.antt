-- The layers' answers as flat structs and numbers.
use Rattle.std.specs.Prelude.{ℕ, ◌+◌, Bool, cond, ltb, length, drop, true, false, Option, Some, None, is_some, unwrap_or}
use Rattle.lists.specs.Answer.{Answer, got, refused}
use Rattle.text.specs.declared.Reader.{Reader}
use Rattle.text.specs.declared.Reader.TheVariants.{Transition, Witness}
use Rattle.lists.specs.Parts.{Bytes}
use Rattle.scan.specs.Spans.{span, in_line}
use Rattle.text.specs.Lines.{line_size}
use Rattle.text.specs.Fields.{is_blank, in_field}
use Rattle.text.specs.Literals.{LineLiteral}
use Rattle.probe.specs.declared.ProbeWritten.{ProbeWritten}
use Rattle.probe.specs.declared.ProbeNumber.{ProbeNumber}
use Rattle.probe.specs.declared.ProbeLiteral.{ProbeLiteral}
use Rattle.probe.specs.declared.ProbePart.{ProbePart}

abbrev pub reader_of : Bool → Reader
reader_of true = Witness
reader_of false = Transition

abbrev pub flat_number : Option ℕ → ProbeNumber
flat_number (Some v) = record { readable = true; value = v }
flat_number None = record { readable = false; value = 0 }

abbrev pub flat_literal : LineLiteral → ProbeLiteral
flat_literal l = record { readable = is_some l.value; value = unwrap_or l.value 0; at = l.next }

-- what stands for a line or a field that is not there
abbrev pub no_part : ProbePart
no_part = record { found = false; start = 0; end = 0; next = 0 }

-- the line, or the rest of one, from a place on, and the place behind it
abbrev pub line_at : Bytes → ℕ → ProbePart
line_at s at =
    cond (ltb at (length s)) (record { found = true; start = at; end = at + span in_line (drop at s); next = at + line_size (drop at s) }) no_part

-- the field that begins at place a, where the line has one
abbrev pub field_from : Bytes → ℕ → ProbePart
field_from l a =
    cond (ltb a (length l)) (record { found = true; start = a; end = a + span in_field (drop a l); next = a + span in_field (drop a l) }) no_part

-- the next field at or after a place of a line
abbrev pub field_at : Bytes → ℕ → ProbePart
field_at l at = field_from l (at + span is_blank (drop at l))

abbrev pub flat_written : Option ℕ → ProbeWritten
flat_written (Some n) = record { fits = true; next = n }
flat_written None = record { fits = false; next = 0 }

-- 0, or the number of the reason (R9)
abbrev pub reason_of : {A : Type 0} → Answer A → ℕ
reason_of (got a) = 0
reason_of (refused n) = n
