-- A model that passed its validation can be run: each of its variables has a word.
use Prim.Native.Nat.{ℕ, ◌+◌, ◌*◌, ◌≤◌, ◌<◌}
use mathlib.Core.Bool.{true}
use mathlib.Core.List.{List, map}
use Rattle.std.specs.Prelude.{Result, Ok}
use mathlib.Core.Path.{◌≡◌, sym}
use native.Mathlib.Omega.{arith}
use lib.ListN.{take}
use Rattle.lists.specs.Answer.{got}
use Rattle.lists.specs.Tests.{Each}
use Rattle.lists.specs.Words.{triples_of}
use Rattle.lists.proofs.MapLaws.{map-take}
use Rattle.lists.proofs.TestLaws.{each-so, each_with, each_of_map, each-split}
use Rattle.aiger.specs.declared.Gate.{Gate}
use Rattle.aiger.specs.Gates.{variable, output_of, gate_from}
use Rattle.aiger.proofs.DefinedLaws.{Defines, Orders, defined_facts}
use Rattle.model.specs.declared.AigerTransition.{AigerTransition}
use Rattle.aiger.specs.declared.Refusal.{Refusal}
use Rattle.model.specs.Circuit.{Circuit, circuit_of, current_of, next_of, currents_of, nexts_of, leaves_of}
use Rattle.model.specs.Limits.{well_defined}
use Rattle.model.specs.Checked.{checked, counts_of, judged}
use Rattle.model.proofs.CountLaws.{counted_facts}
use Rattle.model.proofs.ValueLaws.{Literals, well_facts, checked-got}
use Rattle.model_step.specs.Inner.Stored.{Inside, InsideGate}
use Rattle.model_step.specs.Inner.Runnable.{Runnable}

-- where each literal of a model has one of n words
record InsideModel (n : ℕ) (c : Circuit) : Type 0 where
  inputs : Inside n c.inputs
  currents : Inside n (currents_of c)
  nexts : Inside n (nexts_of c)
  outputs : Inside n c.outputs
  gates : Each (InsideGate n) c.gates

module _ (most : ℕ) where
  literals-inside : (ls : List ℕ) → Literals most ls → Inside (most + 1) ls
  literals-inside = each-so (λ l. l ≤ 2 * most + 1) (λ l. variable l < most + 1) (λ l h. omega arith)

  leaves-inside : (ls : List ℕ) → Each (Defines most) ls → Inside (most + 1) ls
  leaves-inside = each-so (Defines most) (λ l. variable l < most + 1) (λ l d. omega (arith, d.low))

  gate_inside : (g : Gate) → Defines most g.output → Orders g → InsideGate (most + 1) g
  gate_inside g d o = record { output = omega (arith, d.low); left = omega (arith, d.low, o.left); right = omega (arith, d.low, o.right) }

model-inside : (c : Circuit) → well_defined c ≡ true → InsideModel (c.variables + 1) c
model-inside c h =
    let most = c.variables in
    let f = well_facts c h in
    let d = defined_facts most (leaves_of c) c.gates f.once in
    let b = each-split (Defines most) (leaves_of c) (map output_of c.gates) d.each in
    let e = each-split (Defines most) c.inputs (currents_of c) b.0 in
    record {
      inputs = leaves-inside most c.inputs e.0;
      currents = leaves-inside most (currents_of c) e.1;
      nexts = literals-inside most (nexts_of c) f.nexts;
      outputs = literals-inside most c.outputs f.outputs;
      gates =
          each_with (λ g. Defines most g.output) Orders (InsideGate (most + 1)) (gate_inside most) c.gates
          (each_of_map output_of (Defines most) c.gates b.1) d.order;
    }

-- the record and its gate words are a model, for a work slice of w words
pub record IsModel (m : AigerTransition) (g : List ℕ) (w : ℕ) : Type 0 where
  pub is : checked m g w ≡ got (circuit_of m g)

pub is-model : (m : AigerTransition) (g : List ℕ) (w : ℕ) (v : Result (Unit {0}) Refusal) → judged v (circuit_of m g) ≡ checked m g w → (u : Unit {0}) → v ≡ Ok u → IsModel m g w
is-model m g w v q u e = let k : got (circuit_of m g) ≡ checked m g w = rw e at q in record { is = sym k }

pub runnable : {m : AigerTransition} {g : List ℕ} {w : ℕ} → IsModel m g w → Runnable m g (m.max_variable + 1)
runnable {m} {g} {w} e =
    let p = checked-got m g w (circuit_of m g) e.is in
    let n = counted_facts (counts_of m) p.counts in
    let i = model-inside (circuit_of m g) p.well in
    record {
      few_inputs = n.inputs;
      few_latches = n.latches;
      few_outputs = n.outputs;
      words = p.words;
      inputs = i.inputs;
      currents = rw (← map-take current_of m.latch_count m.latches) i.currents;
      nexts = rw (← map-take next_of m.latch_count m.latches) i.nexts;
      outputs = i.outputs;
      gates = i.gates;
    }

-- more words do as well
pub runnable-more : {m : AigerTransition} {g : List ℕ} {a b : ℕ} → Runnable m g a → a ≤ b → Runnable m g b
runnable-more {m} {g} {a} {b} r h =
    let more : (ls : List ℕ) → Inside a ls → Inside b ls = each-so (λ l. variable l < a) (λ l. variable l < b) (λ l k. omega arith) in
    record {
      few_inputs = r.few_inputs;
      few_latches = r.few_latches;
      few_outputs = r.few_outputs;
      words = r.words;
      inputs = more (take m.input_count m.inputs) r.inputs;
      currents = more (take m.latch_count (map current_of m.latches)) r.currents;
      nexts = more (take m.latch_count (map next_of m.latches)) r.nexts;
      outputs = more (take m.output_count m.outputs) r.outputs;
      gates = each-so (InsideGate a) (InsideGate b) (λ k i. record { output = omega (arith, i.output); left = omega (arith, i.left); right = omega (arith, i.right) }) (take m.and_count (triples_of gate_from g)) r.gates;
    }
