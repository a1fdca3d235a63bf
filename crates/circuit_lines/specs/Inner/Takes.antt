-- For the contracts of functions that the readers use: what those that take lines from a text say of its list of lines: the item of each
-- line and the lines left, or 8 (R9.8).
use Rattle.std.specs.Prelude.{ℕ, ◌≡◌, List, [], ◌∷◌, length, drop, Option, Some, None}
use Rattle.std.specs.Borrow.{Bor}
use Rattle.lists.specs.Answer.{Answer, got, refused}
use Rattle.lists.specs.Parts.{Bytes, front}
use Rattle.text.specs.declared.Parsed.{Parsed}
use Rattle.text.specs.declared.Reader.{Reader}
use Rattle.text.specs.Lines.{lines_of}
use Rattle.text.specs.Inner.Fronts.{Behind}
use Rattle.aiger.specs.declared.Gate.{Gate}
use Rattle.aiger.specs.Sections.{section}
use Rattle.circuit_lines.specs.Inner.OneLine.{at_most, Stored}
use Rattle.circuit_lines.specs.SectionLines.{first_numbers, gate_line}

-- the header's numbers are k many and stand in front of what was in o₀, and the text r with the other lines stands behind it
pub record Headed (reader : Reader) (s : Bytes) (o₀ o : List ℕ) (k : ℕ) (r : Bytes) : Type 0 where
  pub stored : Stored o₀ o (first_numbers reader (lines_of s)) k
  pub rest : drop 1 (lines_of s) ≡ lines_of r
  pub behind : Behind s r

-- so it is, or the first line is no header, or one with more numbers than o₀ is long
abbrev pub TakesHeaderNumbers : Reader → Bytes → List ℕ → List ℕ → Option (Parsed ℕ) → Type 0
TakesHeaderNumbers reader s o₀ o (Some p) = Headed reader s o₀ o p.value p.rest.now
TakesHeaderNumbers reader s o₀ o None = at_most (length o₀) (first_numbers reader (lines_of s)) ≡ None

module _ {A : Type 0} where
  -- the section of the first n lines of s has these items, and the text r stands behind it
  pub record SectionTaken (item : Bytes → Answer A) (s : Bytes) (n : ℕ) (items : List A) (r : Bytes) : Type 0 where
    pub section : section item n (lines_of s) ≡ got (record { items = items; rest = lines_of r })
    pub behind : Behind s r

  -- so it is, or a line of it is missing or bad
  abbrev pub Takes : (Bytes → Answer A) → Bytes → ℕ → Option (Bor Bytes) → List A → Type 0
  Takes item s n (Some r) items = SectionTaken item s n items r.now
  Takes item s n None items = section item n (lines_of s) ≡ refused 8

  -- such items stand in front of what was in o₀, and the text r is left
  pub record FrontTaken (item : Bytes → Answer A) (s : Bytes) (n : ℕ) (o₀ o : List A) (r : Bytes) : Type 0 where
    pub items : List A
    pub stand : o ≡ front o₀ items
    pub taken : SectionTaken item s n items r

  abbrev pub TakesFront : (Bytes → Answer A) → Bytes → ℕ → List A → Option (Bor Bytes) → List A → Type 0
  TakesFront item s n o₀ (Some r) o = FrontTaken item s n o₀ o r.now
  TakesFront item s n o₀ None o = section item n (lines_of s) ≡ refused 8

  -- so it is for one line and its item
  abbrev pub TakesOne : (Bytes → Answer A) → Bytes → Option (Parsed A) → Type 0
  TakesOne item s (Some p) = SectionTaken item s 1 (p.value ∷ []) p.rest.now
  TakesOne item s None = section item 1 (lines_of s) ≡ refused 8

-- one gate
abbrev pub TakesGate : Reader → Bytes → Option (Parsed Gate) → Type 0
TakesGate reader = TakesOne (gate_line reader)

-- one gate for both readers, where it was read the fast way; nothing is said where it was not
abbrev pub TakesPlain : Bytes → Option (Parsed Gate) → Type 0
TakesPlain s (Some p) = (reader : Reader) → TakesGate reader s (Some p)
TakesPlain s None = Unit {0}
