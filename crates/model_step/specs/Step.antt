-- The step (R6; refusals R9.7, R9.11, R9.12).
use Rattle.std.specs.Prelude.{ℕ, ◌^◌, Bool, false, cond, ◌&&◌, List, [], ◌∷◌, map, eqb, ltb, length, take, drop}
use Rattle.lists.specs.Answer.{Answer, got, unless, and_then}
use Rattle.lists.specs.Bits.{bits, packed}
use Rattle.aiger.specs.declared.Gate.{Gate}
use Rattle.aiger.specs.Gates.{variable, Valuation, value}
use Rattle.model.specs.declared.AigerTransition.{AigerTransition}
use Rattle.model.specs.Circuit.{Circuit, currents_of, nexts_of}
use Rattle.model.specs.Checked.{checked}
use Rattle.model_step.specs.declared.Outcome.{Outcome}

-- R6.3: the values at the beginning: every variable is false
abbrev pub start : Valuation
start n = false

-- the values with variable n at b
abbrev pub assign : Valuation → ℕ → Bool → Valuation
assign v n b k = cond (eqb k n) b (v k)

-- R6.2: the variables of the literals at the bits, each literal's at its own
abbrev pub assigned : Valuation → List ℕ → List Bool → Valuation
assigned v [] bs = v
assigned v (l ∷ ls) [] = v
assigned v (l ∷ ls) (b ∷ bs) = assigned (assign v (variable l) b) ls bs

-- R6.3: the gates computed one after the other, each from the values that stand when its turn comes
abbrev pub computed : Valuation → List Gate → Valuation
computed v [] = v
computed v (g ∷ gs) = computed (assign v (variable g.output) (value v g.left && value v g.right)) gs

-- R6.2, R6.3: the values of a step: latches at the state's bits, inputs at the word's, in file order, then the gates
unfoldable pub step_values : Circuit → ℕ → ℕ → Valuation
step_values c s x =
    computed
    (assigned
    (assigned start (currents_of c) (bits (length c.latches) s))
    c.inputs
    (bits (length c.inputs) x))
    c.gates

-- R6.2, R12.7: the state of the next literals under some values, and the outputs: the first 64 in the low word, the others in the high one
unfoldable pub outcome_under : Circuit → Valuation → Outcome
outcome_under c v =
    record {
      target = packed (map (value v) (nexts_of c));
      high = packed (drop 64 (map (value v) c.outputs));
      low = packed (take 64 (map (value v) c.outputs));
    }

-- R9.12: the outcome of a step of a record that is checked, from a state below 2^L and an input word below 2^I
unfoldable pub step_of : AigerTransition → List ℕ → ℕ → ℕ → ℕ → Answer Outcome
step_of m g w s x =
    and_then (checked m g w) (λ c.
    unless 12 (ltb s (2 ^ length c.latches))
    (unless 12 (ltb x (2 ^ length c.inputs))
    (got (outcome_under c (step_values c s x)))))
