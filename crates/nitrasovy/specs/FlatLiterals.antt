-- The answer of `take_literal` as a flat struct, and where it leaves the cursor (R2.3, R2.4; refusal R9.8).
use Rattle.std.specs.Prelude.{ℕ, ◌≡◌, Option, Some, None}
use Rattle.lists.specs.Parts.{Bytes}
use Rattle.text.specs.declared.Reader.TheVariants.{Witness}
use Rattle.text.specs.Literals.{LineLiteral, literal_at}
use Rattle.nitrasovy.specs.declared.literals.NitTaken.{NitTaken}

-- the literal of the line at a place of a text and the cursor behind it, by the witness reader's rule for numbers
abbrev pub literal_from : Bytes → ℕ → LineLiteral
literal_from s at = literal_at Witness s at

-- reason 0 and the literal, or R9.8 where the line is missing or does not have one readable number and nothing else
abbrev pub flat_value : Option ℕ → NitTaken
flat_value (Some v) = record { reason = 0; value = v }
flat_value None = record { reason = 8; value = 0 }

abbrev pub flat_literal : LineLiteral → NitTaken
flat_literal l = flat_value l.value

-- R2.3, R2.4: the place after the call, one line on, taken or refused, or where it was
abbrev pub place_after : LineLiteral → ℕ
place_after l = l.next

-- what the call promises, where `taken` is what stands at the lent place: its flat answer, and the place at exit
pub record TakesFlat (taken : LineLiteral) (r : NitTaken) (at' : ℕ) : Type 0 where
  pub returns : r ≡ flat_literal taken
  pub moves : at' ≡ place_after taken
