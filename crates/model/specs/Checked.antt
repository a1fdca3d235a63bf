-- What the validation of a model record answers (R5.1; refusals R9.7, R9.11).
use Rattle.std.specs.Prelude.{ℕ, ◌*◌, List, Result, ◌≡◌, leb, ltb, length}
use Rattle.lists.specs.Answer.{Answer, got, unless}
use Rattle.lists.specs.Parts.{zeros}
use Rattle.aiger.specs.declared.Refusal.{Refusal}
use Rattle.aiger.specs.Refusals.{answered_as}
use Rattle.model.specs.declared.AigerTransition.{AigerTransition}
use Rattle.model.specs.declared.Counts.{Counts}
use Rattle.model.specs.Circuit.{Circuit, circuit_of}
use Rattle.model.specs.Limits.{counted, well_defined}

-- the five counts of a record
abbrev pub counts_of : AigerTransition → Counts
counts_of m =
    record {
      max_variable = m.max_variable;
      inputs = m.input_count;
      latches = m.latch_count;
      outputs = m.output_count;
      ands = m.and_count;
    }

-- R9.7, R9.11: the model of a record and gate words, with w work words: 7 unless they are more than M, then 11 for all limits of R5.
-- Inputs and outputs that are lent may be fewer than their counts say, which breaks the limits; a record always has its eight latches.
unfoldable pub checked : AigerTransition → List ℕ → ℕ → Answer Circuit
checked m g w =
    unless 7 (ltb m.max_variable w)
    (unless 11 (counted (counts_of m))
    (unless 11 (leb m.input_count (length m.inputs))
    (unless 11 (leb m.output_count (length m.outputs))
    (unless 11 (leb (3 * m.and_count) (length g))
    (unless 11 (well_defined (circuit_of m g))
    (got (circuit_of m g)))))))

-- R12.13: what the validation of a model says: there is that model, or the number of the reason why there is none
abbrev pub judged : Result (Unit {0}) Refusal → Circuit → Answer Circuit
judged r c = answered_as (λ _. c) r

-- R16.1: the promise of the validation of m with gate words g and w work words: its result r, and the work words after it
pub record Validates (m : AigerTransition) (g : List ℕ) (w : ℕ) (r : Result (Unit {0}) Refusal) (work' : List ℕ) : Type 0 where
  pub judges : judged r (circuit_of m g) ≡ checked m g w
  pub clears : work' ≡ zeros w
