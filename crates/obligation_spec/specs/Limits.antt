-- What an obligation asks of its boundary (R9.13) and of its claims (R9.14).
use Rattle.std.specs.Prelude.{ℕ, ◌+◌, ◌*◌, ◌/◌, ◌^◌, Bool, ◌&&◌, ◌||◌, List, [], ◌∷◌, leb, ltb, eqb, length}
use Rattle.lists.specs.Sets.{rising_by, rising}
use Rattle.lists.specs.Tests.{all, every}
use Rattle.lists.specs.Words.{in_order, lengths}
use Rattle.model.specs.Circuit.{Circuit}
use Rattle.model_step.specs.declared.Outcome.{Outcome}
use Rattle.cnf.specs.Clauses.{clauses_in}

-- R9.13: at most 64 relevant inputs, strictly rising, below I; a predicate of at most 64 clauses and 1,024 literals, in order, over these.
-- Literals are counted as the sum of the pairs' lengths; half a pair does not count.
unfoldable pub bounded : Circuit → List ℕ → List ℕ → List ℕ → Bool
bounded c relevant pairs words =
    every
    (leb (length relevant) 64
    ∷ rising relevant
    ∷ all (λ i. ltb i (length c.inputs)) relevant
    ∷ leb (length pairs / 2) 64
    ∷ leb (lengths pairs) 1024
    ∷ in_order 0 (length words) pairs
    ∷ all (all (λ w. ltb (w / 2) (length relevant))) (clauses_in words pairs)
    ∷ [])

-- R9.14: a state of L latches: below 2^L
abbrev pub is_state : Circuit → ℕ → Bool
is_state c s = ltb s (2 ^ length c.latches)

-- R9.14: states that may be claimed: they rise strictly and are all states
unfoldable pub states_claimed : Circuit → List ℕ → Bool
states_claimed c states = every (rising states ∷ all (is_state c) states ∷ [])

-- R12.8: one outcome is before another: by its target, then by its high word, then by its low word
abbrev pub before : Outcome → Outcome → Bool
before a b =
    ltb a.target b.target
    || (eqb a.target b.target && (ltb a.high b.high || (eqb a.high b.high && ltb a.low b.low)))

-- R9.14: each outcome is before the next
abbrev pub rising_outcomes : List Outcome → Bool
rising_outcomes os = rising_by before os

-- R9.14: observed outputs rise strictly, below O; at most 65,536 outcomes rise strictly, each with a target below 2^L and
-- no bit at or above the number of observed outputs
unfoldable pub outcomes_claimed : Circuit → List ℕ → List Outcome → Bool
outcomes_claimed c observed outcomes =
    every
    (rising observed
    ∷ all (λ i. ltb i (length c.outputs)) observed
    ∷ leb (length outcomes) 65536
    ∷ rising_outcomes outcomes
    ∷ all (λ o. is_state c o.target) outcomes
    ∷ all (λ o. ltb (o.low + 2 ^ 64 * o.high) (2 ^ length observed)) outcomes
    ∷ [])
