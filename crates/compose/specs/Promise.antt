-- What the composer promises (R8, R10): its answer, the result bytes, the work words, and demand 3 of the bytes in the buffer at exit.
use Rattle.std.specs.Prelude.{ℕ, List, ◌≡◌, length, take, Result, Ok}
use Rattle.lists.specs.Answer.{Answer, got, refused}
use Rattle.lists.specs.Parts.{Bytes, front, zeros}
use Rattle.aiger.specs.declared.Refusal.{Refusal}
use Rattle.aiger.specs.Refusals.{answered}
use Rattle.compose_spec.specs.Calling.{texts_in, compose_call}
use Rattle.compose_spec.specs.Meaning.{Composition}

-- the answer in the code: how many bytes the text has, or the number of the reason
abbrev pub composed_answer : Answer Bytes → Answer ℕ
composed_answer (got text) = got (length text)
composed_answer (refused n) = refused n

-- R10.4: the result bytes after the call, with the text in front and the rest as it was; all as they were where it refuses
abbrev pub result_bytes : Bytes → Answer Bytes → Bytes
result_bytes out (got text) = front out text
result_bytes out (refused n) = out

-- for all arguments
pub record Composes (model buffer : Bytes) (pairs work : List ℕ) (out : Bytes) (work' : List ℕ) (out' : Bytes) (r : Result ℕ Refusal) : Type 0 where
  pub returns : answered r ≡ composed_answer (compose_call (length work) (length out) model buffer pairs)
  pub result : out' ≡ result_bytes out (compose_call (length work) (length out) model buffer pairs)
  -- R10.5: the work words are zero
  pub zero : work' ≡ zeros (length work)
  -- demand 3, of the n bytes that stand in the result buffer
  pub means : (n : ℕ) → r ≡ Ok n → Composition model (texts_in buffer pairs) (take n out')
