-- Demand 3 for rows (R0.3, R11), and what a terminal list means (R7.7).
use Rattle.std.specs.Prelude.{ℕ, ◌*◌, ◌<◌, ◌^◌, Bool, true, false, ◌↔◌, ◌≡◌, length, get_or}
use mathlib.Core.List.{List, map, Memᴰ}
use Rattle.lists.specs.Bits.{bits, packed}
use Rattle.lists.specs.Tests.{Each}
use Rattle.aiger.specs.Gates.{Valuation, value}
use Rattle.model.specs.Circuit.{Circuit, nexts_of}
use Rattle.model.specs.Values.{Settles}
use Rattle.model_step.specs.declared.Outcome.{Outcome}
use Rattle.cnf.specs.Clauses.{Clause, Assignment, satisfies, Unsatisfiable, valuation_of}
use Rattle.obligation_spec.specs.Lists.{output_bits}

infix 50 ◌∈◌
-- x is an element of l
abbrev pub ◌∈◌ {ℓ} : {A : Type ℓ} → A → List A → Type ℓ
x ∈ l = Memᴰ x l

-- R11.2: x is an input word of the lock: below 2^I
abbrev pub InputWord : Circuit → ℕ → Type 0
InputWord c x = x < 2 ^ length c.inputs

-- R11.2: s is a state of the lock: below 2^L
abbrev pub State : Circuit → ℕ → Type 0
State c s = s < 2 ^ length c.latches

-- R11.3: the predicate holds for the input word x: its bits for the relevant inputs, in their order, satisfy the clauses
abbrev pub Meets : Circuit → List ℕ → List Clause → ℕ → Type 0
Meets c relevant predicate x = satisfies (map (λ i. get_or (bits (length c.inputs) x) i false) relevant) predicate ≡ true

-- R11.4: from the source s the input word x leads to the state t with the outputs os
pub record Leads (c : Circuit) (s x t : ℕ) (os : List Bool) : Type 0 where
  pub values : Valuation
  pub settles : Settles c s x values
  pub target : t ≡ packed (map (value values) (nexts_of c))
  pub outputs : os ≡ map (value values) c.outputs

-- R11.5: x leads from s to one of the claimed targets
pub record ToTarget (c : Circuit) (s : ℕ) (targets : List ℕ) (x : ℕ) : Type 0 where
  pub target : ℕ
  pub outputs : List Bool
  pub leads : Leads c s x target outputs
  pub claimed : target ∈ targets

-- R11.5: x leads from s to the target of one claimed outcome, with the outcome's bit k at the k-th observed output, for each of them
pub record ToOutcome (c : Circuit) (s : ℕ) (observed : List ℕ) (outcomes : List Outcome) (x : ℕ) : Type 0 where
  pub outcome : Outcome
  pub outputs : List Bool
  pub leads : Leads c s x outcome.target outputs
  pub claimed : outcome ∈ outcomes
  pub agrees : (k : ℕ) → k < length observed → get_or outputs (get_or observed k 0) false ≡ get_or (output_bits outcome) k false

-- R0.3: every input word for which the predicate holds ends in a claim
abbrev pub Complete : Circuit → List ℕ → List Clause → (ℕ → Type 0) → Type 0
Complete c relevant predicate Claimed = (x : ℕ) → InputWord c x → Meets c relevant predicate x → Claimed x

-- D10.19: the assignment has the values of the lock at s and some input word, for which the predicate holds and which ends in no claim
pub record Escapes (c : Circuit) (relevant : List ℕ) (predicate : List Clause) (s : ℕ) (Claimed : ℕ → Type 0) (a : Assignment) : Type 0 where
  pub word : ℕ
  pub input : InputWord c word
  pub meets : Meets c relevant predicate word
  pub settles : Settles c s word (valuation_of a)
  pub unclaimed : Claimed word → ⊥

-- R11.6: every literal is of a CNF variable below n
abbrev pub Variables : ℕ → List Clause → Type 0
Variables n cs = Each (λ k. Each (λ w. w < 2 * n) k) cs

-- R0.3: what a row's clauses mean: unsatisfiable if and only if the row is complete, and which assignments satisfy them
pub record RowMeans (c : Circuit) (relevant : List ℕ) (predicate : List Clause) (s : ℕ) (Claimed : ℕ → Type 0) (cs : List Clause) : Type 0 where
  pub complete : Unsatisfiable c.variables cs ↔ Complete c relevant predicate Claimed
  pub assignments : (a : Assignment) → length a ≡ c.variables → (satisfies a cs ≡ true) ↔ Escapes c relevant predicate s Claimed a
  pub variables : Variables c.variables cs

-- R7.7: in the state s there is an input word for which the predicate holds and the bad output is 0
pub record LeavesZero (c : Circuit) (relevant : List ℕ) (predicate : List Clause) (bad s : ℕ) : Type 0 where
  pub word : ℕ
  pub input : InputWord c word
  pub meets : Meets c relevant predicate word
  pub target : ℕ
  pub outputs : List Bool
  pub leads : Leads c s word target outputs
  pub zero : get_or outputs bad false ≡ false

-- R7.7: every state that has such an input word is claimed
abbrev pub TerminalComplete : Circuit → List ℕ → List Clause → ℕ → List ℕ → Type 0
TerminalComplete c relevant predicate bad states = (s : ℕ) → State c s → LeavesZero c relevant predicate bad s → s ∈ states

-- R7.7, D10.19: the assignment has the lock's values in an unclaimed state, for an input word with the predicate true and the bad output 0
pub record Overlooks (c : Circuit) (relevant : List ℕ) (predicate : List Clause) (bad : ℕ) (states : List ℕ) (a : Assignment) : Type 0 where
  pub state : ℕ
  pub among : State c state
  pub word : ℕ
  pub input : InputWord c word
  pub meets : Meets c relevant predicate word
  pub settles : Settles c state word (valuation_of a)
  pub zero : value (valuation_of a) (get_or c.outputs bad 0) ≡ false
  pub unclaimed : state ∈ states → ⊥

-- R7.7: what a terminal list's clauses mean: unsatisfiable if and only if it is complete, and which assignments satisfy them
pub record TerminalMeans (c : Circuit) (relevant : List ℕ) (predicate : List Clause) (bad : ℕ) (states : List ℕ) (cs : List Clause) : Type 0 where
  pub complete : Unsatisfiable c.variables cs ↔ TerminalComplete c relevant predicate bad states
  pub assignments : (a : Assignment) → length a ≡ c.variables → (satisfies a cs ≡ true) ↔ Overlooks c relevant predicate bad states a
  pub variables : Variables c.variables cs
