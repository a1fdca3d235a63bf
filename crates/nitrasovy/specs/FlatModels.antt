-- The answers of the transition reader (R5) and the step (R6) as flat structs: reason 0 and the values, or a number of R9 and zeros (R10.3).
use Rattle.std.specs.Prelude.{ℕ, List, ◌≡◌, length}
use Rattle.lists.specs.Answer.{Answer, got, refused}
use Rattle.lists.specs.Parts.{zeros}
use Rattle.model.specs.Circuit.{Circuit, record_of, no_circuit}
use Rattle.model_read.specs.Reading.{gates_after}
use Rattle.model_step.specs.declared.Outcome.{Outcome}
use Rattle.nitrasovy.specs.declared.models.NitRead.{NitRead}
use Rattle.nitrasovy.specs.declared.models.NitStepped.{NitStepped}
use Rattle.nitrasovy.specs.Reasons.{read_reasons, step_reasons, Among}

abbrev pub flat_read : Answer Circuit → NitRead
flat_read (got c) = record { reason = 0; model = record_of c }
flat_read (refused n) = record { reason = n; model = record_of no_circuit }

abbrev pub flat_step : Answer Outcome → NitStepped
flat_step (got o) = record { reason = 0; target = o.target; high = o.high; low = o.low }
flat_step (refused n) = record { reason = n; target = 0; high = 0; low = 0 }

-- what the reader promises, where `answer` is the model or the first number: its flat answer and the numbers that it can have, the gate
-- words and the work words after it
pub record ReadsFlat (answer : Answer Circuit) (gates work : List ℕ) (r : NitRead) (gates' work' : List ℕ) : Type 0 where
  pub returns : r ≡ flat_read answer
  pub numbered : Among read_reasons answer
  pub writes : gates' ≡ gates_after answer gates
  pub clears : work' ≡ zeros (length work)

-- what a step promises, where `answer` is the outcome or the first number
pub record StepsFlat (answer : Answer Outcome) (work : List ℕ) (r : NitStepped) (work' : List ℕ) : Type 0 where
  pub returns : r ≡ flat_step answer
  pub numbered : Among step_reasons answer
  pub clears : work' ≡ zeros (length work)
