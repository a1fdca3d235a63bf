-- The answer of the witness reader (R4) as a flat struct: reason 0 and the counts, or the number of the reason (R9) and zeros.
use Rattle.std.specs.Prelude.{◌≡◌, length}
use Rattle.lists.specs.Answer.{Answer, got, refused}
use Rattle.witness_read.specs.Sections.{Sections, variables}
use Rattle.nitrasovy.specs.declared.witnesses.NitWitness.{NitWitness}
use Rattle.nitrasovy.specs.Reasons.{witness_reasons, Among}

abbrev pub flat_witness : Answer Sections → NitWitness
flat_witness (got s) =
    record {
      reason = 0;
      max_variable = variables s;
      inputs = length s.inputs;
      latches = length s.latches;
      outputs = length s.outputs;
      gates = length s.gates;
      bads = length s.bads;
      constraints = length s.constraints;
    }
flat_witness (refused n) = record { reason = n; max_variable = 0; inputs = 0; latches = 0; outputs = 0; gates = 0; bads = 0; constraints = 0 }

-- what the reader promises, where `answer` is the sections or the first number: its flat answer, and which numbers it can have
pub record CountsFlat (answer : Answer Sections) (r : NitWitness) : Type 0 where
  pub returns : r ≡ flat_witness answer
  pub numbered : Among witness_reasons answer
