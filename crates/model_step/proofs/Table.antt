-- The worked cases of the step (R13), from the bytes of the texts of K and Q, with a byte 10 after each line.
use Prim.Native.Nat.{ℕ}
use mathlib.Core.Bool.{true, false, ◌&&◌}
use mathlib.Core.List.{[], ◌∷◌, map}
use mathlib.Core.Path.{◌≡◌, refl, ap}
use native.Mathlib.Omega.{arith}
use lib.Dec.{ltb}
use Rattle.lists.specs.Quoted.{bytes}
use Rattle.lists.specs.Answer.{Answer, got, refused}
use Rattle.lists.specs.Parts.{Bytes}
use Rattle.lists.specs.Tests.{every}
use Rattle.lists.specs.Sets.{rising}
use Rattle.text.specs.Numbers.{number_of}
use Rattle.text.specs.Texts.{good_text}
use Rattle.aiger.specs.Gates.{output_of, gate_from, Valuation, value}
use Rattle.aiger.specs.Defined.{literal, defining, ordered, defined}
use Rattle.model.specs.Circuit.{Circuit, record_of, words_of_gates}
use Rattle.model.specs.Limits.{counted, well_defined}
use Rattle.model.specs.Checked.{checked}
use Rattle.model.specs.Values.{Settles}
use Rattle.model.proofs.ValueLaws.{Sound}
use Rattle.model_read.specs.Reading.{read_transition}
use Rattle.model_step.specs.declared.Outcome.{Outcome}
use Rattle.model_step.specs.Step.{step_values, outcome_under, step_of}

-- model K (R13)
abbrev pub text_k : Bytes
text_k =
    bytes "aag 3 1 1 1 1\n2\n4 6\n6\n6 4 2\n"

abbrev pub model_k : Circuit
model_k =
    record {
      variables = 3;
      inputs = 2 ∷ [];
      latches = record { current = 4; next = 6 } ∷ [];
      outputs = 6 ∷ [];
      gates = gate_from 6 4 2 ∷ [];
    }

-- model Q (R13)
abbrev pub text_q : Bytes
text_q =
    bytes "aag 3 0 1 1 2\n2 6\n6\n6 4 4\n4 2 2\n"

abbrev pub model_q : Circuit
model_q =
    record {
      variables = 3;
      inputs = [];
      latches = record { current = 2; next = 6 } ∷ [];
      outputs = 6 ∷ [];
      gates = gate_from 6 4 4 ∷ gate_from 4 2 2 ∷ [];
    }

-- the step of a model's record and gate words, with w work words
abbrev pub step_from : Circuit → ℕ → ℕ → ℕ → Answer Outcome
step_from c w s x = step_of (record_of c) (words_of_gates c) w s x

-- a target with outputs whose high word is 0
abbrev pub outcome : ℕ → ℕ → Answer Outcome
outcome target low = got (record { target = target; high = 0; low = low })

pub k_read : read_transition text_k 3 4 ≡ got model_k
unfolding read_transition good_text every number_of counted well_defined literal defining ordered defined
k_read = refl

pub q_read : read_transition text_q 6 4 ≡ got model_q
unfolding read_transition good_text every number_of counted well_defined literal defining ordered defined
q_read = refl

-- R13.1, R13.2
pub k-steps : (step_from model_k 4 1 1 ≡ outcome 1 1) × (step_from model_k 4 1 0 ≡ outcome 0 0) × (step_from model_k 4 2 1 ≡ refused 12) × (step_from model_k 4 1 2 ≡ refused 12)
unfolding step_of checked every counted well_defined literal defining ordered defined step_values outcome_under value
k-steps = (refl, refl, refl, refl)

-- R13.5
pub q_step : step_from model_q 4 1 0 ≡ outcome 0 0
unfolding step_of checked every counted well_defined literal defining ordered defined step_values outcome_under value
q_step = refl

-- R15.5: the gate equations of Q lead elsewhere than its step: to state 1 with output 1
pub q_equations : (v : Valuation) → Settles model_q 1 0 v → outcome_under model_q v ≡ record { target = 1; high = 0; low = 1 }
unfolding outcome_under
q_equations v f =
    let latch : value v 2 ≡ true = (let e : value v 2 ∷ [] ≡ true ∷ [] = f.latches in cc) in
    let lower : value v 4 ≡ (value v 2 && value v 2) = f.follows.conjunctions.1.0 in
    let upper : value v 6 ≡ (value v 4 && value v 4) = f.follows.conjunctions.0 in
    rw (upper, lower, latch)

-- and there are such values: all variables but 0 are true
pub q_settles : Settles model_q 1 0 (λ n. ltb 0 n)
unfolding value
q_settles = record { latches = refl; inputs = refl; follows = record { constant = refl; conjunctions = (refl, (refl, tt)) } }

-- so the step's own values do not follow the equations, though Q is sound: its gates are listed from the last to the first
pub q_departs : Settles model_q 1 0 (step_values model_q 1 0) → ⊥
unfolding step_values outcome_under value
q_departs f = let e : ◌≡◌ {A = ℕ} 0 1 = ap (λ (o : Outcome). o.target) (q_equations (step_values model_q 1 0) f) in omega arith

pub q_sound : Sound model_q
unfolding every well_defined literal defining ordered defined
q_sound = record { well = refl; sum = refl }

pub q_order : rising (map output_of model_q.gates) ≡ false
q_order = refl

-- work words: M of them are too few, which is 7 also where the state is too large
pub k-work : (step_from model_k 3 1 1 ≡ refused 7) × (step_from model_k 3 2 1 ≡ refused 7)
unfolding step_of checked
k-work = (refl, refl)
