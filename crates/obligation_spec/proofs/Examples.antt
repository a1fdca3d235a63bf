-- Worked examples of the calls: pairs of a predicate, claims, and room for the result. (Which reason comes first: `WorkedRows`.)
use Prim.Native.Nat.{ℕ, ◌<◌}
use mathlib.Core.Bool.{true, false}
use mathlib.Core.List.{List, [], ◌∷◌}
use mathlib.Core.Path.{◌≡◌, refl}
use native.Mathlib.Omega.{arith}
use Rattle.lists.specs.Answer.{Answer, got, refused}
use Rattle.lists.specs.Tests.{every}
use Rattle.lists.proofs.BoolLaws.{true-false}
use Rattle.aiger.specs.Defined.{literal, defining, ordered, defined}
use Rattle.model.specs.Circuit.{record_of, words_of_gates}
use Rattle.model.specs.Limits.{counted, well_defined}
use Rattle.model.specs.Checked.{checked}
use Rattle.model_step.proofs.Table.{model_k}
use Rattle.cnf.specs.Clauses.{Clause, literal_true, satisfies, Unsatisfiable}
use Rattle.cnf.specs.Simplified.{cnf_word, dropped, simplified}
use Rattle.obligation_spec.specs.Lists.{relation_clauses, transducer_clauses, terminal_clauses}
use Rattle.obligation_spec.specs.Limits.{bounded, states_claimed, outcomes_claimed}
use Rattle.obligation_spec.specs.Calls.{Asked, Lent, relation_row, transducer_row, terminal_list}
use Rattle.obligation_spec.specs.Meaning.{InputWord, Meets}
use Rattle.obligation_spec.proofs.RefuteLaws.{refuted}
use Rattle.obligation_spec.proofs.Table.{plain, enough, model_w, model_z}

-- K with a predicate over its input: word 1 is the input, word 0 its negation
abbrev pub asking : List ℕ → List ℕ → List ℕ → Asked
asking relevant pairs words = record { model = record_of model_k; gates = words_of_gates model_k; relevant = relevant; pairs = pairs; words = words }

-- the row 1 to {1} of K under a predicate
abbrev pub row_where : List ℕ → List ℕ → List ℕ → Answer (List Clause)
row_where relevant pairs words = relation_row (asking relevant pairs words) 1 (1 ∷ []) enough

-- that row's clauses, those of the predicate in their place
abbrev pub row_with : Clause → List Clause
row_with p = (3 ∷ []) ∷ p ∷ (3 ∷ 4 ∷ []) ∷ (1 ∷ 4 ∷ []) ∷ (0 ∷ 2 ∷ 5 ∷ []) ∷ (4 ∷ []) ∷ []

-- where the input is 1 the row is complete, where it is 0 it is not
pub predicates :
    (row_where (0 ∷ []) (0 ∷ 1 ∷ []) (1 ∷ 0 ∷ []) ≡ got (row_with (1 ∷ [])))
    × Unsatisfiable 3 (row_with (1 ∷ []))
    × (row_where (0 ∷ []) (1 ∷ 1 ∷ []) (1 ∷ 0 ∷ []) ≡ got (row_with (0 ∷ [])))
    × (satisfies (false ∷ true ∷ false ∷ []) (row_with (0 ∷ [])) ≡ true)
unfolding relation_row relation_clauses simplified dropped cnf_word bounded states_claimed checked every counted well_defined literal defining ordered defined satisfies literal_true
predicates = (refl, refuted 3 (row_with (1 ∷ [])) refl, refl, refl)

-- pairs that touch; a gap before the first; the empty clause at the end of the words; half a pair is not read
pub pairs-taken :
    (row_where (0 ∷ []) (0 ∷ 1 ∷ 1 ∷ 1 ∷ []) (1 ∷ 1 ∷ []) ≡ got ((3 ∷ []) ∷ (1 ∷ []) ∷ (1 ∷ []) ∷ (3 ∷ 4 ∷ []) ∷ (1 ∷ 4 ∷ []) ∷ (0 ∷ 2 ∷ 5 ∷ []) ∷ (4 ∷ []) ∷ []))
    × (row_where (0 ∷ []) (1 ∷ 1 ∷ []) (9 ∷ 1 ∷ []) ≡ got (row_with (1 ∷ [])))
    × (row_where (0 ∷ []) (2 ∷ 0 ∷ []) (1 ∷ 1 ∷ []) ≡ got (row_with []))
    × (row_where (0 ∷ []) (0 ∷ 1 ∷ 9 ∷ []) (1 ∷ 1 ∷ []) ≡ got (row_with (1 ∷ [])))
unfolding relation_row relation_clauses simplified dropped cnf_word bounded states_claimed checked every counted well_defined literal defining ordered defined
pairs-taken = (refl, refl, refl, refl)

-- pairs that overlap; a pair past the end, also an empty one; a variable that indexes no relevant input
pub pairs-refused :
    (row_where (0 ∷ []) (0 ∷ 2 ∷ 1 ∷ 1 ∷ []) (1 ∷ 1 ∷ []) ≡ refused 13)
    × (row_where (0 ∷ []) (1 ∷ 1 ∷ 0 ∷ 1 ∷ []) (1 ∷ 1 ∷ []) ≡ refused 13)
    × (row_where (0 ∷ []) (0 ∷ 1 ∷ 1 ∷ 2 ∷ []) (1 ∷ 1 ∷ []) ≡ refused 13)
    × (row_where (0 ∷ []) (3 ∷ 0 ∷ []) (1 ∷ 1 ∷ []) ≡ refused 13)
    × (row_where (0 ∷ []) (0 ∷ 1 ∷ []) (2 ∷ []) ≡ refused 13)
    × (row_where [] (0 ∷ 1 ∷ []) (0 ∷ []) ≡ refused 13)
    × (row_where (1 ∷ []) [] [] ≡ refused 13)
    × (row_where (0 ∷ 0 ∷ []) [] [] ≡ refused 13)
unfolding relation_row bounded checked every counted well_defined literal defining ordered defined
pairs-refused = (refl, refl, refl, refl, refl, refl, refl, refl)

-- R15.3: an empty clause makes the predicate false: no word meets it, and the row is complete with no claim
pub nothing-meets : (x : ℕ) → Meets model_k (0 ∷ []) ([] ∷ []) x → ⊥
unfolding satisfies
nothing-meets x m = true-false m refl

pub nothing-escapes :
    (relation_row (asking (0 ∷ []) (0 ∷ 0 ∷ []) []) 1 [] enough ≡ got ((3 ∷ []) ∷ [] ∷ (3 ∷ 4 ∷ []) ∷ (1 ∷ 4 ∷ []) ∷ (0 ∷ 2 ∷ 5 ∷ []) ∷ []))
    × Unsatisfiable 3 ((3 ∷ []) ∷ [] ∷ (3 ∷ 4 ∷ []) ∷ (1 ∷ 4 ∷ []) ∷ (0 ∷ 2 ∷ 5 ∷ []) ∷ [])
unfolding relation_row relation_clauses simplified dropped cnf_word bounded states_claimed checked every counted well_defined literal defining ordered defined satisfies literal_true
nothing-escapes = (refl, refuted 3 ((3 ∷ []) ∷ [] ∷ (3 ∷ 4 ∷ []) ∷ (1 ∷ 4 ∷ []) ∷ (0 ∷ 2 ∷ 5 ∷ []) ∷ []) refl)

-- every word meets the empty predicate
pub all_meet : (x : ℕ) → Meets model_k [] [] x
unfolding satisfies
all_meet x = refl

-- R15.2: an empty list of claims is accepted by each of the three calls
pub no_claims :
    (relation_row (plain model_k) 1 [] enough ≡ got ((3 ∷ []) ∷ (3 ∷ 4 ∷ []) ∷ (1 ∷ 4 ∷ []) ∷ (0 ∷ 2 ∷ 5 ∷ []) ∷ []))
    × (satisfies (false ∷ true ∷ false ∷ []) ((3 ∷ []) ∷ (3 ∷ 4 ∷ []) ∷ (1 ∷ 4 ∷ []) ∷ (0 ∷ 2 ∷ 5 ∷ []) ∷ []) ≡ true)
    × (transducer_row (plain model_w) 1 [] [] enough ≡ got ((3 ∷ []) ∷ []))
    × (terminal_list (plain model_k) 0 [] enough ≡ got ((3 ∷ 4 ∷ []) ∷ (1 ∷ 4 ∷ []) ∷ (0 ∷ 2 ∷ 5 ∷ []) ∷ (4 ∷ []) ∷ []))
unfolding relation_row relation_clauses transducer_row transducer_clauses terminal_list terminal_clauses simplified dropped cnf_word bounded states_claimed outcomes_claimed checked every counted well_defined literal defining ordered defined satisfies literal_true
no_claims = (refl, refl, refl, refl)

-- no inputs: the word 0 is the only one
pub no_inputs : (x : ℕ) → InputWord model_z x → x ≡ 0
no_inputs x h = let k : x < 1 = h in omega arith

-- ---- claims

-- the row 1 of W, outputs 1 and 3 observed, with some outcomes: target, high, low
abbrev pub outcomes_where : List ℕ → List ℕ → Answer (List Clause)
outcomes_where observed outcomes = transducer_row (plain model_w) 1 observed outcomes enough

-- words that are left over are not read
pub outcomes_taken :
    (outcomes_where (1 ∷ 3 ∷ []) (0 ∷ 0 ∷ 2 ∷ []) ≡ got ((3 ∷ []) ∷ (1 ∷ 2 ∷ []) ∷ []))
    × (outcomes_where (1 ∷ 3 ∷ []) (0 ∷ 0 ∷ 2 ∷ 9 ∷ 9 ∷ []) ≡ got ((3 ∷ []) ∷ (1 ∷ 2 ∷ []) ∷ []))
unfolding transducer_row transducer_clauses simplified dropped cnf_word bounded outcomes_claimed checked every counted well_defined literal defining ordered defined
outcomes_taken = (refl, refl)

-- equal outcomes; falling low halves and targets; a bit beyond the two observed outputs, in either half; a target that is no state
pub outcomes_refused :
    (outcomes_where (1 ∷ 3 ∷ []) (0 ∷ 0 ∷ 2 ∷ 0 ∷ 0 ∷ 2 ∷ []) ≡ refused 14)
    × (outcomes_where (1 ∷ 3 ∷ []) (0 ∷ 0 ∷ 2 ∷ 0 ∷ 0 ∷ 1 ∷ []) ≡ refused 14)
    × (outcomes_where (1 ∷ 3 ∷ []) (1 ∷ 0 ∷ 2 ∷ 0 ∷ 0 ∷ 3 ∷ []) ≡ refused 14)
    × (outcomes_where (1 ∷ 3 ∷ []) (0 ∷ 0 ∷ 4 ∷ []) ≡ refused 14)
    × (outcomes_where (1 ∷ 3 ∷ []) (0 ∷ 2 ∷ 0 ∷ []) ≡ refused 14)
    × (outcomes_where (1 ∷ 3 ∷ []) (2 ∷ 0 ∷ 0 ∷ []) ≡ refused 14)
unfolding transducer_row bounded outcomes_claimed checked every counted well_defined literal defining ordered defined
outcomes_refused = (refl, refl, refl, refl, refl, refl)

-- observed outputs that do not rise, or are not below O
pub observed-refused :
    (outcomes_where (3 ∷ 1 ∷ []) [] ≡ refused 14) × (outcomes_where (1 ∷ 1 ∷ []) [] ≡ refused 14) × (outcomes_where (4 ∷ []) [] ≡ refused 14)
unfolding transducer_row bounded outcomes_claimed checked every counted well_defined literal defining ordered defined
observed-refused = (refl, refl, refl)

-- targets and states that do not rise or are no states; a source that is none; a bad output that is not below O
pub states_refused :
    (relation_row (plain model_k) 1 (1 ∷ 0 ∷ []) enough ≡ refused 14)
    × (relation_row (plain model_k) 1 (1 ∷ 1 ∷ []) enough ≡ refused 14)
    × (relation_row (plain model_k) 1 (2 ∷ []) enough ≡ refused 14)
    × (relation_row (plain model_k) 2 [] enough ≡ refused 14)
    × (transducer_row (plain model_w) 2 [] [] enough ≡ refused 14)
    × (terminal_list (plain model_k) 0 (1 ∷ 0 ∷ []) enough ≡ refused 14)
    × (terminal_list (plain model_k) 0 (2 ∷ []) enough ≡ refused 14)
    × (terminal_list (plain model_k) 1 [] enough ≡ refused 14)
unfolding relation_row transducer_row terminal_list bounded states_claimed outcomes_claimed checked every counted well_defined literal defining ordered defined
states_refused = (refl, refl, refl, refl, refl, refl, refl, refl)

-- ---- room for the result

-- words lent for work, pairs and literals
abbrev pub little : ℕ → ℕ → ℕ → Lent
little work pairs literals = record { work = work; pairs = pairs; literals = literals }

-- K's row `1 1` needs ten words for pairs and nine for literals; an odd word more is of no use, and none is needed beyond
pub just_enough :
    (relation_row (plain model_k) 1 (1 ∷ []) (little 4 10 9) ≡ got ((3 ∷ []) ∷ (3 ∷ 4 ∷ []) ∷ (1 ∷ 4 ∷ []) ∷ (0 ∷ 2 ∷ 5 ∷ []) ∷ (4 ∷ []) ∷ []))
    × (relation_row (plain model_k) 1 (1 ∷ []) (little 4 9 9) ≡ refused 20)
    × (relation_row (plain model_k) 1 (1 ∷ []) (little 4 10 8) ≡ refused 20)
unfolding relation_row relation_clauses simplified dropped cnf_word bounded states_claimed checked every counted well_defined literal defining ordered defined
just_enough = (refl, refl, refl)
