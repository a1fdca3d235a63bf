-- For the contracts of the reader's inner functions: what each of its passes over the lines says of the definitions.
use Rattle.std.specs.Prelude.{ℕ, ◌*◌, ◌≤◌, ◌<◌, Bool, true, List, [], ◌∷◌, ◌++◌, ◌≡◌, length, Option, Some, None}
use Rattle.lists.specs.Answer.{Answer, got, refused, unless, and_then}
use Rattle.lists.specs.Parts.{Bytes, front, zeros}
use Rattle.lists.specs.Words.{words_of}
use Rattle.text.specs.declared.Reader.TheVariants.{Transition}
use Rattle.text.specs.declared.Parsed.{Parsed}
use Rattle.text.specs.Lines.{lines_of}
use Rattle.aiger.specs.declared.Gate.{Gate}
use Rattle.aiger.specs.Gates.{gate_words}
use Rattle.aiger.specs.Defined.{defined}
use Rattle.aiger.specs.Sections.{section}
use Rattle.model.specs.declared.AigerTransition.{AigerTransition}
use Rattle.model.specs.declared.Counts.{Counts}
use Rattle.model.specs.Circuit.{Circuit, record_of}
use Rattle.model.specs.Limits.{counted, well_defined}
use Rattle.model.specs.Inner.Marking.{Marking}
use Rattle.circuit_lines.specs.SectionLines.{literal_line, gate_line}
use Rattle.model_text.specs.ModelLines.{latch_line}

-- ---- inputs, latches and outputs

-- a model whose gates are still to come, and the lines after its outputs
pub record Started : Type 0 where
  pub circuit : Circuit
  pub rest : List Bytes

abbrev pub with_gates : Circuit → List Gate → Circuit
with_gates c gates = record { variables = c.variables; inputs = c.inputs; latches = c.latches; outputs = c.outputs; gates = gates }

-- the first three sections
abbrev pub start_of : Counts → List Bytes → Answer Started
start_of n ls =
    and_then (section (literal_line Transition) n.inputs ls) (λ inputs.
    and_then (section latch_line n.latches inputs.rest) (λ latches.
    and_then (section (literal_line Transition) n.outputs latches.rest) (λ outputs.
    got (record {
      circuit = record { variables = n.max_variable; inputs = inputs.items; latches = latches.items; outputs = outputs.items; gates = [] };
      rest = outputs.rest;
    }))))

-- the record of a model, with so many gates
abbrev pub record_with : Circuit → ℕ → AigerTransition
record_with c gates =
    record {
      max_variable = c.variables;
      input_count = length c.inputs;
      inputs = (record_of c).inputs;
      latch_count = length c.latches;
      latches = (record_of c).latches;
      output_count = length c.outputs;
      outputs = (record_of c).outputs;
      and_count = gates;
    }

-- they were taken: the record has them, and the gates' lines follow
pub record Starts (s : Bytes) (n : Counts) (m : AigerTransition) (r : Bytes) : Type 0 where
  pub circuit : Circuit
  pub variables : circuit.variables ≡ n.max_variable
  pub takes : start_of n (lines_of s) ≡ got (record { circuit = circuit; rest = lines_of r })
  pub model : m ≡ record_with circuit n.ands

abbrev pub TakesStart : Bytes → Counts → Option (Parsed AigerTransition) → Type 0
TakesStart s n (Some p) = Starts s n p.value p.rest.now
TakesStart s n None = start_of n (lines_of s) ≡ refused 8

-- ---- gates

-- one more gate after others, of which `fine` says whether they hold
abbrev pub AddsNext : ℕ → List ℕ → Bool → Gate → List ℕ → Bool → Type 0
AddsNext most work fine g work' r = (leaves : List ℕ) (gates : List Gate) → Marking most work leaves gates fine → Marking most work' leaves (gates ++ g ∷ []) r

-- they were all taken, and f says whether all definitions hold, where `fine` says it of those of the leaves
pub record Found (s : Bytes) (n most : ℕ) (fine : Bool) (work : List ℕ) (f : Bool) : Type 0 where
  pub gates : List Gate
  pub rest : List Bytes
  pub takes : section (gate_line Transition) n (lines_of s) ≡ got (record { items = gates; rest = rest })
  pub says : (leaves : List ℕ) → Marking most work leaves [] fine → f ≡ defined most leaves gates

abbrev pub ChecksGates : Bytes → ℕ → ℕ → Bool → List ℕ → Option Bool → Type 0
ChecksGates s n most fine work (Some f) = Found s n most fine work f
ChecksGates s n most fine work None = section (gate_line Transition) n (lines_of s) ≡ refused 8

-- the gates of a section that is good stand in front of the words
abbrev pub Writes : Bytes → ℕ → List ℕ → List ℕ → Type 0
Writes s n o o' = (gates : List Gate) (rest : List Bytes) → section (gate_line Transition) n (lines_of s) ≡ got (record { items = gates; rest = rest }) → o' ≡ front o (words_of gate_words gates)

-- the gates of a model, and whether it is well defined
abbrev pub gates_of : Circuit → ℕ → List Bytes → Answer Circuit
gates_of c n ls = and_then (section (gate_line Transition) n ls) (λ gates. unless 11 (well_defined (with_gates c gates.items)) (got (with_gates c gates.items)))

-- whether an answer gives a model
abbrev pub verdict_of : Answer Circuit → Answer (Unit {0})
verdict_of (got c) = got tt
verdict_of (refused n) = refused n

-- the limits that hold where the sections are read, with no bit set in the work words
pub record Readable (n : Counts) (gates work : List ℕ) : Type 0 where
  pub counts : counted n ≡ true
  pub words : 3 * n.ands ≤ length gates
  pub room : n.max_variable < length work
  pub clear : work ≡ zeros (length work)
