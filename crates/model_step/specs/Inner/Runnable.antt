-- For the contracts of inner functions: what a run of the step asks of a record and its gate words.
use Rattle.std.specs.Prelude.{ℕ, ◌*◌, ◌≤◌, List, map, length, take}
use Rattle.lists.specs.Bits.{bits}
use Rattle.lists.specs.Tests.{Each}
use Rattle.lists.specs.Words.{triples_of}
use Rattle.aiger.specs.Gates.{Valuation, gate_from}
use Rattle.model.specs.declared.AigerTransition.{AigerTransition}
use Rattle.model.specs.Circuit.{current_of, next_of}
use Rattle.model_step.specs.Step.{start, assigned}
use Rattle.model_step.specs.Inner.Stored.{Inside, InsideGate}

-- the counts are within the limits and the gate words, and every variable has one of n words
pub record Runnable (m : AigerTransition) (g : List ℕ) (n : ℕ) : Type 0 where
  pub few_inputs : m.input_count ≤ 64
  pub few_latches : m.latch_count ≤ 8
  pub few_outputs : m.output_count ≤ 128
  pub words : 3 * m.and_count ≤ length g
  pub inputs : Inside n (take m.input_count m.inputs)
  pub currents : Inside n (take m.latch_count (map current_of m.latches))
  pub nexts : Inside n (take m.latch_count (map next_of m.latches))
  pub outputs : Inside n (take m.output_count m.outputs)
  pub gates : Each (InsideGate n) (take m.and_count (triples_of gate_from g))

-- the values when the state and the input word are loaded
abbrev pub loaded : AigerTransition → ℕ → ℕ → Valuation
loaded m s x =
    assigned
    (assigned start (take m.latch_count (map current_of m.latches)) (bits (length (take m.latch_count (map current_of m.latches))) s))
    (take m.input_count m.inputs)
    (bits (length (take m.input_count m.inputs)) x)
