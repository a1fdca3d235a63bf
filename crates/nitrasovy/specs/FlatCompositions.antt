-- The answer of the composer (R8) as a flat struct, and what its export promises.
use Rattle.std.specs.Prelude.{ℕ, List, ◌≡◌, length, take}
use Rattle.lists.specs.Answer.{Answer, got, refused}
use Rattle.lists.specs.Parts.{Bytes, zeros}
use Rattle.compose_spec.specs.Calling.{texts_in, compose_call}
use Rattle.compose_spec.specs.Meaning.{Composition}
use Rattle.compose.specs.Promise.{result_bytes}
use Rattle.nitrasovy.specs.declared.compositions.NitComposed.{NitComposed}
use Rattle.nitrasovy.specs.Reasons.{compose_reasons, Among}

-- reason 0 and how many bytes the text has, or the number of the reason
abbrev pub flat_composed : Answer Bytes → NitComposed
flat_composed (got text) = record { reason = 0; bytes = length text }
flat_composed (refused n) = record { reason = n; bytes = 0 }

-- for all arguments
pub record ComposesFlat (model buffer : Bytes) (pairs work : List ℕ) (out : Bytes) (work' : List ℕ) (out' : Bytes) (r : NitComposed) : Type 0 where
  pub returns : r ≡ flat_composed (compose_call (length work) (length out) model buffer pairs)
  pub numbered : Among compose_reasons (compose_call (length work) (length out) model buffer pairs)
  pub result : out' ≡ result_bytes out (compose_call (length work) (length out) model buffer pairs)
  pub zero : work' ≡ zeros (length work)
  -- demand 3, of the bytes that stand in the result buffer
  pub means : r.reason ≡ 0 → Composition model (texts_in buffer pairs) (take r.bytes out')
