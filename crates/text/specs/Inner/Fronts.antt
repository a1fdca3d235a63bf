-- For the contracts of functions that take a line, a field or a number from the front of a text or a line: what it is, and what is left.
use Rattle.std.specs.Prelude.{ℕ, ◌≡◌, ◌<◌, [], Bool, eqb, length, take, drop, Option, Some, None}
use Rattle.std.specs.Borrow.{Bor}
use Rattle.lists.specs.Parts.{Bytes}
use Rattle.scan.specs.Spans.{span, in_line}
use Rattle.text.specs.declared.Reader.{Reader}
use Rattle.text.specs.declared.Parsed.{Parsed}
use Rattle.text.specs.declared.Taken.{Taken}
use Rattle.text.specs.declared.Taken.TheVariants as taken
use Rattle.text.specs.Lines.{lines_of, line_size}
use Rattle.text.specs.Fields.{is_blank, in_field}
use Rattle.text.specs.Numbers.{number_of}
use Rattle.text.specs.Literals.{first_literal}

-- the text r stands behind some bytes of s
pub record Behind (s r : Bytes) : Type 0 where
  pub size : ℕ
  pub is : r ≡ drop size s

-- ---- lines

-- the first line of s is l, and the text r stands behind it
pub record LineTaken (s l r : Bytes) : Type 0 where
  pub some_byte : 0 < length s
  pub line : l ≡ take (span in_line s) s
  pub rest : r ≡ drop (line_size s) s

-- so it is, or there is no line
abbrev pub TakesLine : Bytes → Option (Parsed (Bor Bytes)) → Type 0
TakesLine s (Some p) = LineTaken s p.value.now p.rest.now
TakesLine s None = s ≡ []

-- ---- fields

abbrev pub is_space : ℕ → Bool
is_space b = eqb b 32

-- the line l from its first field on
abbrev pub from_field : Bytes → Bytes
from_field l = drop (span is_blank l) l

-- a field f stands at the front of l, and r behind it
pub record FieldAtFront (l f r : Bytes) : Type 0 where
  pub field : f ≡ take (span in_field l) l
  pub rest : r ≡ drop (span in_field l) l

-- the first field of the line l is f, and r stands behind it
pub record FieldTaken (l f r : Bytes) : Type 0 where
  pub some_byte : 0 < length (from_field l)
  pub stands : FieldAtFront (from_field l) f r

-- so it is, or there is no field
abbrev pub TakesField : Bytes → Option (Parsed (Bor Bytes)) → Type 0
TakesField l (Some p) = FieldTaken l p.value.now p.rest.now
TakesField l None = from_field l ≡ []

-- ---- numbers

-- the field at the front of l writes the number v, and r stands behind it
pub record NumberStands (reader : Reader) (l : Bytes) (v : ℕ) (r : Bytes) : Type 0 where
  pub value : number_of reader (take (span in_field l) l) ≡ Some v
  pub rest : r ≡ drop (span in_field l) l

-- so it is, or the field there writes none
abbrev pub NumberAtFront : Reader → Bytes → Taken → Type 0
NumberAtFront reader l (taken.Got v r) = NumberStands reader l v r.now
NumberAtFront reader l taken.Unreadable = number_of reader (take (span in_field l) l) ≡ None
NumberAtFront reader l taken.Missing = ⊥

-- the number of the first field of the line l, or that there is no field
abbrev pub TakesNumber : Reader → Bytes → Taken → Type 0
TakesNumber reader l (taken.Got v r) = (0 < length (from_field l)) × NumberStands reader (from_field l) v r.now
TakesNumber reader l taken.Unreadable = (0 < length (from_field l)) × (number_of reader (take (span in_field (from_field l)) (from_field l)) ≡ None)
TakesNumber reader l taken.Missing = from_field l ≡ []

-- the literal of the first line of the text s, if it is one, and the text behind that line
pub record TakesLiteral (reader : Reader) (s : Bytes) (p : Parsed (Option ℕ)) : Type 0 where
  pub value : p.value ≡ first_literal reader (lines_of s)
  pub rest : p.rest.now ≡ drop (line_size s) s
