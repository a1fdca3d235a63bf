-- Worked examples of the step: outputs in both halves, several latches and inputs, and which reason comes first.
use Prim.Native.Nat.{ℕ, zero, suc, ◌+◌, ◌^◌}
use mathlib.Core.Bool.{true}
use mathlib.Core.List.{List, [], ◌∷◌, ◌++◌, map}
use Rattle.std.specs.Prelude.{Ok, Err}
use mathlib.Core.Path.{◌≡◌, refl}
use lib.ListN.{replicate}
use Rattle.lists.specs.Answer.{got, refused}
use Rattle.lists.specs.Sets.{rising}
use Rattle.lists.specs.Tests.{every}
use Rattle.aiger.specs.Gates.{gate_from, output_of, value}
use Rattle.aiger.specs.Defined.{literal, defining, ordered, defined}
use Rattle.model.specs.declared.AigerLatch.{AigerLatch}
use Rattle.model.specs.Circuit.{Circuit, record_of}
use Rattle.model.specs.Limits.{counted, well_defined}
use Rattle.model.specs.Checked.{checked}
use Rattle.model_step.specs.Step.{step_values, outcome_under, step_of}
use Rattle.aiger.specs.declared.Refusal.TheVariants.{Room}
use Rattle.aiger.specs.Refusals.{answered}
use Rattle.model_step.specs.declared.Outcome.{Outcome}
use Rattle.model_step.proofs.Table.{model_k, step_from}

abbrev pub latch : ℕ → ℕ → AigerLatch
latch current next = record { current = current; next = next }

-- one latch that keeps its value, and outputs
abbrev pub keeper : List ℕ → Circuit
keeper outputs = record { variables = 1; inputs = []; latches = latch 2 2 ∷ []; outputs = outputs; gates = [] }

-- 66 outputs: 63 false ones, then true, then the latch, then true. Output 63 is the last of the low half, outputs 64 and 65 are the first of the high half
pub halves :
    (step_from (keeper (replicate 63 0 ++ 1 ∷ 2 ∷ 1 ∷ [])) 2 1 0 ≡ got (record { target = 1; high = 3; low = 2 ^ 63 }))
    × (step_from (keeper (replicate 63 0 ++ 1 ∷ 2 ∷ 1 ∷ [])) 2 0 0 ≡ got (record { target = 0; high = 2; low = 2 ^ 63 }))
    × (step_from (keeper (replicate 64 1)) 2 1 0 ≡ got (record { target = 1; high = 0; low = 18446744073709551615 }))
    × (step_from (keeper (replicate 128 1)) 2 1 0 ≡ got (record { target = 1; high = 18446744073709551615; low = 18446744073709551615 }))
    × (step_from (keeper []) 2 1 0 ≡ got (record { target = 1; high = 0; low = 0 }))
unfolding step_of checked every counted well_defined literal defining ordered defined step_values outcome_under value
halves = (refl, refl, refl, refl, refl)

-- three latches and two inputs: latch 0 takes latch 1, latch 1 takes latch 2 negated, latch 2 takes input 1; the outputs are input 0 and latch 0
abbrev pub shifter : Circuit
shifter =
    record {
      variables = 5;
      inputs = 2 ∷ 4 ∷ [];
      latches = latch 6 8 ∷ latch 8 11 ∷ latch 10 4 ∷ [];
      outputs = 2 ∷ 6 ∷ [];
      gates = [];
    }

-- R6.2: state 2 has latch 1 set, input word 2 has input 1 set
pub bit-order :
    (step_from shifter 6 2 2 ≡ got (record { target = 7; high = 0; low = 0 }))
    × (step_from shifter 6 1 1 ≡ got (record { target = 2; high = 0; low = 3 }))
    × (step_from shifter 6 4 0 ≡ got (record { target = 0; high = 0; low = 0 }))
unfolding step_of checked every counted well_defined literal defining ordered defined step_values outcome_under value
bit-order = (refl, refl, refl)

-- the last state and input word that are taken, and the first that are not
pub last_words :
    (step_from shifter 6 7 3 ≡ got (record { target = 5; high = 0; low = 3 }))
    × (step_from shifter 6 8 3 ≡ refused 12)
    × (step_from shifter 6 7 4 ≡ refused 12)
    × (step_from (keeper []) 2 0 1 ≡ refused 12)
unfolding step_of checked every counted well_defined literal defining ordered defined step_values outcome_under value
last_words = (refl, refl, refl, refl)

-- 7, then 11, then 12: too few work words; too few gate words; a state and an input word that are too large
pub first_wins :
    (step_of (record_of model_k) (6 ∷ 4 ∷ []) 3 2 2 ≡ refused 7)
    × (step_of (record_of model_k) (6 ∷ 4 ∷ []) 4 2 2 ≡ refused 11)
    × (step_of (record_of model_k) (6 ∷ 4 ∷ 2 ∷ []) 4 2 2 ≡ refused 12)
unfolding step_of checked every counted well_defined literal defining ordered defined
first_wins = (refl, refl, refl)

-- Q with its gates in the other order: gate 6 is computed from gate 4's new value
abbrev pub sorted : Circuit
sorted =
    record { variables = 3; inputs = []; latches = latch 2 6 ∷ []; outputs = 6 ∷ []; gates = gate_from 4 2 2 ∷ gate_from 6 4 4 ∷ [] }

-- a gate of the latch negated and true; the outputs are the gate and its negation
abbrev pub negated : Circuit
negated = record { variables = 2; inputs = []; latches = latch 2 4 ∷ []; outputs = 4 ∷ 5 ∷ []; gates = gate_from 4 3 1 ∷ [] }

pub gates-computed :
    (step_from sorted 4 1 0 ≡ got (record { target = 1; high = 0; low = 1 }))
    × (step_from sorted 4 0 0 ≡ got (record { target = 0; high = 0; low = 0 }))
    × (step_from negated 3 0 0 ≡ got (record { target = 1; high = 0; low = 1 }))
    × (step_from negated 3 1 0 ≡ got (record { target = 0; high = 0; low = 2 }))
    × (rising (map output_of sorted.gates) ≡ true)
unfolding step_of checked every counted well_defined literal defining ordered defined step_values outcome_under value
gates-computed = (refl, refl, refl, refl, refl)

-- n even literals from l on
abbrev pub evens : ℕ → ℕ → List ℕ
evens zero l = []
evens (suc n) l = l ∷ evens n (l + 2)

-- as many inputs, latches and outputs as there may be: the outputs are the inputs twice, the latches keep their values
abbrev pub full : Circuit
full =
    record {
      variables = 72;
      inputs = evens 64 2;
      latches = map (λ l. latch l l) (evens 8 130);
      outputs = evens 64 2 ++ evens 64 2;
      gates = [];
    }

-- every 64-bit word is an input word of 64 inputs; 255 is the last state of 8 latches
pub full_steps :
    (step_from full 73 255 18446744073709551615 ≡ got (record { target = 255; high = 18446744073709551615; low = 18446744073709551615 }))
    × (step_from full 73 128 9223372036854775808 ≡ got (record { target = 128; high = 9223372036854775808; low = 9223372036854775808 }))
    × (step_from full 73 256 0 ≡ refused 12)
unfolding step_of checked every counted well_defined literal defining ordered defined step_values outcome_under value
full_steps = (refl, refl, refl)

pub stepped : (answered {A = Outcome} (Ok (record { target = 1; high = 2; low = 3 })) ≡ got (record { target = 1; high = 2; low = 3 })) × (answered {A = Outcome} (Err Room) ≡ refused 7)
stepped = (refl, refl)
