-- Laws for a whole run of the step: from zero words to the outcome of the definition.
use Prim.Native.Nat.{ℕ, ◌*◌, ◌≤◌}
use mathlib.Core.List.{List, map}
use mathlib.Core.Path.{◌≡◌, ap, ◌∙◌}
use native.Mathlib.Omega.{arith}
use lib.ListN.{length, take, length-map, length-take}
use Rattle.lists.specs.Bits.{bits}
use Rattle.lists.specs.Parts.{zeros}
use Rattle.lists.specs.Tests.{Each}
use Rattle.lists.specs.Words.{triples_of}
use Rattle.lists.proofs.MapLaws.{map-take}
use Rattle.lists.proofs.ZeroLaws.{zeros-at}
use Rattle.aiger.specs.Gates.{Valuation, gate_from}
use Rattle.model.specs.declared.AigerTransition.{AigerTransition}
use Rattle.model.specs.Circuit.{circuit_of, current_of, next_of}
use Rattle.model_step.specs.declared.Outcome.{Outcome}
use Rattle.model_step.specs.Step.{start, assigned, computed, step_values, outcome_under}
use Rattle.model_step.specs.Inner.Stored.{held, Stored, Becomes, Inside, InsideGate, Readable, readings}
use Rattle.model_step.specs.Inner.Runnable.{Runnable, loaded}
use Rattle.model_step.proofs.StepLaws.{values-stored}

-- R6.3: words that are all 0 hold the values at the beginning
zeros-start : (n : ℕ) → Stored (zeros n) start
zeros-start n = record { says = λ k h. rw (zeros-at n k) }

readings-stored : (w : List ℕ) (v : Valuation) (nexts outputs : List ℕ) → Stored w v → Inside (length w) nexts → Inside (length w) outputs
    → readings (held w) nexts outputs ≡ readings v nexts outputs
readings-stored w v nexts outputs s i j = rw (values-stored w v nexts s i, values-stored w v outputs s j)

-- what the parts of a run ask for
module _ {m : AigerTransition} {g : List ℕ} {n : ℕ} (k : Runnable m g n) (w : List ℕ) (same : length w ≡ n) where
  pub run_currents : (from ls : List ℕ) → from ≡ map current_of m.latches → ls ≡ take m.latch_count from → (length ls ≤ 64) × Inside (length w) ls
  run_currents from ls e q = rw (same, q, e) (omega (arith, k.few_latches, length-take m.latch_count (map current_of m.latches)), k.currents)

  pub run_inputs : (ls : List ℕ) → ls ≡ take m.input_count m.inputs → (length ls ≤ 64) × Inside (length w) ls
  run_inputs ls q = rw (same, q) (omega (arith, k.few_inputs, length-take m.input_count m.inputs), k.inputs)

  pub run_words : (3 * m.and_count ≤ length g) × Each (InsideGate (length w)) (take m.and_count (triples_of gate_from g))
  run_words = rw same (k.words, k.gates)

  pub run_reads : (to nexts outputs : List ℕ) → to ≡ map next_of m.latches → nexts ≡ take m.latch_count to → outputs ≡ take m.output_count m.outputs
      → Readable (length w) nexts outputs
  run_reads to nexts outputs e p q =
      rw (same, p, e, q)
      (record {
        few = omega (arith, k.few_latches, length-take m.latch_count (map next_of m.latches));
        inside = k.nexts;
        few_outputs = omega (arith, k.few_outputs, length-take m.output_count m.outputs);
        inside_outputs = k.outputs;
      })

module _ (m : AigerTransition) (g : List ℕ) (s x : ℕ) where
  -- the values at the end
  abbrev pub Run : Valuation
  Run = computed (loaded m s x) (take m.and_count (triples_of gate_from g))

  run_values : Run ≡ step_values (circuit_of m g) s x
  unfolding step_values
  run_values = rw (← map-take current_of m.latch_count m.latches, length-map (take m.latch_count m.latches) current_of)

  run_readings : (v : Valuation) → readings v (take m.latch_count (map next_of m.latches)) (take m.output_count m.outputs) ≡ outcome_under (circuit_of m g) v
  unfolding outcome_under
  run_readings v = rw (map-take next_of m.latch_count m.latches)

  -- the words after each part of a run
  module _ (n : ℕ) where
    pub run_loaded : (w₀ w₁ w₂ from cs is : List ℕ) → w₀ ≡ zeros n → from ≡ map current_of m.latches
        → cs ≡ take m.latch_count from → Becomes w₀ w₁ (λ v. assigned v cs (bits (length cs) s))
        → is ≡ take m.input_count m.inputs → Becomes w₁ w₂ (λ v. assigned v is (bits (length is) x)) → Stored w₂ (loaded m s x)
    run_loaded w₀ w₁ w₂ from cs is z c p a q b =
        let v₁ : Valuation = assigned start cs (bits (length cs) s) in
        let s₀ : Stored w₀ start = rw z (zeros-start n) in
        rw (p, c, q) at (b.so v₁ (a.so start s₀))

    pub run_read : Runnable m g n → (w₃ to nexts outputs : List ℕ) (r : Outcome) → length w₃ ≡ n → Stored w₃ Run → to ≡ map next_of m.latches
        → nexts ≡ take m.latch_count to → outputs ≡ take m.output_count m.outputs → r ≡ readings (held w₃) nexts outputs
        → r ≡ outcome_under (circuit_of m g) (step_values (circuit_of m g) s x)
    run_read k w₃ to nexts outputs r same s₃ d t o f =
        f ∙ rw (t, d, o) (readings-stored w₃ Run (take m.latch_count (map next_of m.latches)) (take m.output_count m.outputs) s₃ (rw same k.nexts) (rw same k.outputs))
        ∙ run_readings Run ∙ ap (outcome_under (circuit_of m g)) run_values

  pub run_outcome : {n : ℕ} → Runnable m g n → (w₀ w₁ w₂ w₃ from to cs is nexts outputs : List ℕ) (r : Outcome) → w₀ ≡ zeros n → length w₃ ≡ n
      → from ≡ map current_of m.latches → to ≡ map next_of m.latches
      → cs ≡ take m.latch_count from → Becomes w₀ w₁ (λ v. assigned v cs (bits (length cs) s))
      → is ≡ take m.input_count m.inputs → Becomes w₁ w₂ (λ v. assigned v is (bits (length is) x))
      → Becomes w₂ w₃ (λ v. computed v (take m.and_count (triples_of gate_from g)))
      → nexts ≡ take m.latch_count to → outputs ≡ take m.output_count m.outputs → r ≡ readings (held w₃) nexts outputs
      → r ≡ outcome_under (circuit_of m g) (step_values (circuit_of m g) s x)
  run_outcome {n} k w₀ w₁ w₂ w₃ from to cs is nexts outputs r z same c d p a q b e t o f =
      run_read n k w₃ to nexts outputs r same (e.so (loaded m s x) (run_loaded n w₀ w₁ w₂ from cs is z c p a q b)) d t o f
