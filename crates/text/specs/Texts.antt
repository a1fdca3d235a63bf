-- R9.3: which bytes are a text. A test that holds means that the reason does not apply.
use Rattle.std.specs.Prelude.{ℕ, [], ◌∷◌, Bool, true, length, leb}
use Rattle.lists.specs.Parts.{Bytes}
use Rattle.lists.specs.Tests.{all, every}
use Rattle.scan.specs.Allowed.{is_ascii, is_witness_byte, ends_in10}
use Rattle.text.specs.declared.Reader.{Reader}
use Rattle.text.specs.declared.Reader.TheVariants.{Transition, Witness}

-- R11.7: a call reads with the limits on length and M; what demand 3 says of a composition reads without these two
pub data Limits : Type 0 where
  limited : Limits
  free : Limits

-- R11.7: `n` is at most `most`, unless there are no limits
abbrev pub within : Limits → ℕ → ℕ → Bool
within limited most n = leb n most
within free most n = true

-- R9.3: each byte is one that the reader takes
abbrev pub good_bytes : Reader → Bytes → Bool
good_bytes Transition t = all is_ascii t
good_bytes Witness t = all is_witness_byte t

-- R9.3: a witness ends in byte 10, so that it is not empty; for the transition reader any end is right
abbrev pub good_end : Reader → Bytes → Bool
good_end Transition t = true
good_end Witness t = ends_in10 t

-- R9.3: the text has at most 16,777,216 bytes, unless read without limits, each one that the reader takes, and the reader's end
unfoldable pub good_text : Limits → Reader → Bytes → Bool
good_text lim reader t = every (within lim 16777216 (length t) ∷ good_bytes reader t ∷ good_end reader t ∷ [])
