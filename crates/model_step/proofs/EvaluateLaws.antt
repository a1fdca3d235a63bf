-- Laws of `step_of`, as the code goes through its cases.
use Prim.Native.Nat.{ℕ, ◌+◌, ◌^◌, ◌<◌, ◌≤◌}
use mathlib.Core.Bool.{Bool, true, false}
use mathlib.Core.List.{List}
use Rattle.std.specs.Prelude.{Result, Ok, Err}
use mathlib.Core.Path.{◌≡◌, refl}
use native.Mathlib.Omega.{arith}
use lib.Dec.{ltb}
use lib.ListN.{length, take, length-take}
use lib.Seq.{length-take-le}
use Rattle.lists.specs.Answer.{refused}
use Rattle.lists.specs.Parts.{zeros}
use Rattle.lists.proofs.ZeroLaws.{zeros-length, zeros-take}
use Rattle.model.specs.declared.AigerTransition.{AigerTransition}
use Rattle.aiger.specs.declared.Refusal.{Refusal}
use Rattle.aiger.specs.declared.Refusal.TheVariants as refusal
use Rattle.aiger.specs.Refusals.{refusal_number, answered}
use Rattle.model.specs.Circuit.{circuit_of}
use Rattle.model.specs.Checked.{checked, judged}
use Rattle.model.proofs.ValueLaws.{checked-got}
use Rattle.model_step.specs.declared.Outcome.{Outcome}
use Rattle.model_step.specs.Step.{step_of, step_values, outcome_under}
use Rattle.model_step.specs.Inner.Runnable.{Runnable}
use Rattle.model_step.proofs.RunnableLaws.{IsModel, runnable}

module _ (m : AigerTransition) (g : List ℕ) (w s x : ℕ) where
  pub step_invalid : (v : Result (Unit {0}) Refusal) → judged v (circuit_of m g) ≡ checked m g w → (n : Refusal) → v ≡ Err n → answered {A = Outcome} (Err n) ≡ step_of m g w s x
  unfolding step_of
  step_invalid v q n e = let k : refused (refusal_number n) ≡ checked m g w = rw e at q in rw (← k) refl

module _ {m : AigerTransition} {g : List ℕ} {w : ℕ} (p : IsModel m g w) where
  pub step_room : m.max_variable < w
  step_room = (checked-got m g w (circuit_of m g) p.is).work

  -- the words of the variables, of work words that are all 0
  pub step_words : (work : List ℕ) → work ≡ zeros w
      → Runnable m g (length (take (m.max_variable + 1) work)) × (take (m.max_variable + 1) work ≡ zeros (length (take (m.max_variable + 1) work)))
  step_words work z =
      let t : take (m.max_variable + 1) work ≡ zeros (m.max_variable + 1) = rw z (zeros-take (m.max_variable + 1) w (omega (arith, step_room))) in
      rw (t, zeros-length (m.max_variable + 1)) (runnable p, refl)

  pub inputs-few : (is : List ℕ) → is ≡ take m.input_count m.inputs → length is ≤ 64
  inputs-few is q = rw q (omega (arith, length-take m.input_count m.inputs, (runnable p).few_inputs))

  -- `enough`: the latches are an array, so that there are as many as are counted; of the inputs there can be fewer
  module _ (enough : length m.latches ≡ 8) (s x : ℕ) (b : Bool) (e : b ≡ ltb s (2 ^ m.latch_count)) where
    latches-count : length (take m.latch_count m.latches) ≡ m.latch_count
    latches-count = length-take-le m.latch_count m.latches (omega (arith, enough, (runnable p).few_latches))

    pub step-state : b ≡ false → answered (Err refusal.Step) ≡ step_of m g w s x
    unfolding step_of
    step-state t = rw (p.is, latches-count, ← e, t)

    module _ (t : b ≡ true) (is : List ℕ) (q : is ≡ take m.input_count m.inputs) (d : Bool) (f : d ≡ ltb x (2 ^ length is)) where
      inputs_fit : d ≡ ltb x (2 ^ length (take m.input_count m.inputs))
      inputs_fit = rw q at f

      pub step-word : d ≡ false → answered (Err refusal.Step) ≡ step_of m g w s x
      unfolding step_of
      step-word u = rw (p.is, latches-count, ← e, t, ← inputs_fit, u)

      pub step-done : d ≡ true → (o : Outcome) → o ≡ outcome_under (circuit_of m g) (step_values (circuit_of m g) s x) → answered (Ok o) ≡ step_of m g w s x
      unfolding step_of
      step-done u o r = rw (p.is, latches-count, ← e, t, ← inputs_fit, u, r)
