-- The transition model as lists (R5), and as the record and the gate words that stand for it (R12.4).
use Rattle.std.specs.Prelude.{ℕ, List, [], ◌++◌, map, length, take, replicate}
use Rattle.lists.specs.Parts.{front, zeros}
use Rattle.lists.specs.Words.{triples_of, words_of}
use Rattle.aiger.specs.declared.Gate.{Gate}
use Rattle.aiger.specs.Gates.{gate_from, gate_words}
use Rattle.model.specs.declared.AigerLatch.{AigerLatch}
use Rattle.model.specs.declared.AigerTransition.{AigerTransition}
use Rattle.model.specs.declared.Counts.{Counts}

-- R5: a model: M, and the literals of inputs, latches, outputs and gates in file order. The reader checks initializers and keeps none.
pub record Circuit : Type 0 where
  pub variables : ℕ
  pub inputs : List ℕ
  pub latches : List AigerLatch
  pub outputs : List ℕ
  pub gates : List Gate

abbrev pub current_of : AigerLatch → ℕ
current_of l = l.current

abbrev pub next_of : AigerLatch → ℕ
next_of l = l.next

-- the literals of the latches, and their next literals
abbrev pub currents_of : Circuit → List ℕ
currents_of c = map current_of c.latches

abbrev pub nexts_of : Circuit → List ℕ
nexts_of c = map next_of c.latches

-- the literals of inputs and latches
abbrev pub leaves_of : Circuit → List ℕ
leaves_of c = c.inputs ++ currents_of c

-- R12.4: the model that a record and gate words stand for: so many of each as the counts say; what lies past the counts is not read
abbrev pub circuit_of : AigerTransition → List ℕ → Circuit
circuit_of m g =
    record {
      variables = m.max_variable;
      inputs = take m.input_count m.inputs;
      latches = take m.latch_count m.latches;
      outputs = take m.output_count m.outputs;
      gates = take m.and_count (triples_of gate_from g);
    }

-- a record from its counts and arrays
abbrev pub record_from : Counts → List ℕ → List AigerLatch → List ℕ → AigerTransition
record_from n inputs latches outputs =
    record {
      max_variable = n.max_variable;
      input_count = n.inputs;
      inputs = inputs;
      latch_count = n.latches;
      latches = latches;
      output_count = n.outputs;
      outputs = outputs;
      and_count = n.ands;
    }

-- a latch of zeros: what stands past the count
abbrev pub no_latch : AigerLatch
no_latch = record { current = 0; next = 0 }

-- R12.4: the record of a model, with zeros past the counts
abbrev pub record_of : Circuit → AigerTransition
record_of c =
    record {
      max_variable = c.variables;
      input_count = length c.inputs;
      inputs = front (zeros 64) c.inputs;
      latch_count = length c.latches;
      latches = front (replicate 8 no_latch) c.latches;
      output_count = length c.outputs;
      outputs = front (zeros 128) c.outputs;
      and_count = length c.gates;
    }

-- R12.4: the gate words of a model, three for each gate
abbrev pub words_of_gates : Circuit → List ℕ
words_of_gates c = words_of gate_words c.gates

-- R10.3: no model: its record is all zeros
abbrev pub no_circuit : Circuit
no_circuit = record { variables = 0; inputs = []; latches = []; outputs = []; gates = [] }
