-- For the contracts of the functions that check an obligation's boundary and claims: the limits of `obligation_spec/specs/Limits.antt` from the model's counts.
use Rattle.std.specs.Prelude.{ℕ, ◌+◌, ◌*◌, ◌/◌, ◌^◌, Bool, ◌&&◌, List, Result, ◌≡◌, ltb, length}
use Rattle.lists.specs.Parts.{zeros}
use Rattle.lists.specs.Tests.{all}
use Rattle.lists.specs.Words.{in_order}
use Rattle.aiger.specs.declared.Refusal.{Refusal}
use Rattle.model.specs.Circuit.{Circuit}
use Rattle.model.specs.Checked.{judged}
use Rattle.model_step.specs.declared.Outcome.{Outcome}
use Rattle.cnf.specs.Clauses.{clauses_in}
use Rattle.obligation_spec.specs.Lists.{outcomes_of}
use Rattle.obligation_spec.specs.Calls.{Asked, circuit, Lent, asked}
use Rattle.obligation_spec.specs.Limits.{bounded, is_state, states_claimed, outcomes_claimed}

-- each word of a clause indexes one of n relevant inputs
abbrev pub indexes : ℕ → List ℕ → Bool
indexes n clause = all (λ w. ltb (w / 2) n) clause

-- the pairs are in order after a place, and the clauses that they cut index n relevant inputs
abbrev pub predicate_holds : ℕ → ℕ → List ℕ → List ℕ → Bool
predicate_holds n end words pairs = in_order end (length words) pairs && all (indexes n) (clauses_in words pairs)

-- whether the boundary is right for a model of so many inputs
abbrev pub Bounds : ℕ → List ℕ → List ℕ → List ℕ → Bool → Type 0
Bounds inputs relevant pairs words r = (c : Circuit) → length c.inputs ≡ inputs → r ≡ bounded c relevant pairs words

-- whether the number is a state of so many latches
abbrev pub IsState : ℕ → ℕ → Bool → Type 0
IsState latches s r = (c : Circuit) → length c.latches ≡ latches → r ≡ is_state c s

-- whether the states may be claimed for a model of so many latches
abbrev pub ClaimsStates : ℕ → List ℕ → Bool → Type 0
ClaimsStates latches states r = (c : Circuit) → length c.latches ≡ latches → r ≡ states_claimed c states

-- what stands past the end of a list of outcomes
abbrev pub no_outcome : Outcome
no_outcome = record { target = 0; high = 0; low = 0 }

-- the target is below 2^L, and the outputs have no bit at n or above
abbrev pub outcome_fits : ℕ → ℕ → Outcome → Bool
outcome_fits latches n o = ltb o.target (2 ^ latches) && ltb (o.low + 2 ^ 64 * o.high) (2 ^ n)

-- whether the outcomes of flat words may be claimed for a model of so many latches and outputs
abbrev pub ClaimsOutcomes : ℕ → ℕ → List ℕ → List ℕ → Bool → Type 0
ClaimsOutcomes latches outputs observed words r =
    (c : Circuit) → length c.latches ≡ latches → length c.outputs ≡ outputs → r ≡ outcomes_claimed c observed (outcomes_of words)

-- what the check says of what is asked with w work words, and these after it
pub record Checks (q : Asked) (w : ℕ) (r : Result (Unit {0}) Refusal) (work' : List ℕ) : Type 0 where
  pub judges : (lent : Lent) → lent.work ≡ w → judged r (circuit q) ≡ asked q lent
  pub clears : work' ≡ zeros w
