-- The worked cases of rows and terminal lists (R13, R14.6): of the calls, on the models that the texts' bytes give, with enough lent.
use mathlib.Core.Bool.{true, false}
use mathlib.Core.List.{List, [], ◌∷◌}
use mathlib.Core.Path.{◌≡◌, refl}
use Rattle.lists.specs.Quoted.{bytes}
use Rattle.lists.specs.Answer.{got, and_then}
use Rattle.lists.specs.Parts.{Bytes}
use Rattle.lists.specs.Tests.{every}
use Rattle.text.specs.Numbers.{number_of}
use Rattle.text.specs.Texts.{good_text}
use Rattle.aiger.specs.Defined.{literal, defining, ordered, defined}
use Rattle.model.specs.Circuit.{Circuit, record_of, words_of_gates}
use Rattle.model.specs.Limits.{counted, well_defined}
use Rattle.model.specs.Checked.{checked}
use Rattle.model_read.specs.Reading.{read_transition}
use Rattle.model_step.proofs.Table.{text_k, model_k, k_read, k-steps, text_q, model_q, q_read}
use Rattle.cnf.specs.Clauses.{Clause, literal_true, satisfies, Unsatisfiable, literals_of, pairs_from}
use Rattle.cnf.specs.Simplified.{cnf_word, dropped, simplified}
use Rattle.obligation_spec.specs.Lists.{relation_clauses, transducer_clauses, terminal_clauses, outcomes_of}
use Rattle.obligation_spec.specs.Limits.{bounded, states_claimed, outcomes_claimed}
use Rattle.obligation_spec.specs.Calls.{Asked, Lent, relation_row, transducer_row, terminal_list}
use Rattle.obligation_spec.specs.Meaning.{ToTarget, ToOutcome, Complete, TerminalComplete, RowMeans}
use Rattle.obligation_spec.proofs.AnchorLaws.{step-leads}
use Rattle.obligation_spec.proofs.MeaningLaws.{relation_means, transducer_means, terminal_means}
use Rattle.obligation_spec.proofs.RefuteLaws.{refuted}

-- a model asked about without relevant inputs and predicate
abbrev pub plain : Circuit → Asked
plain c = record { model = record_of c; gates = words_of_gates c; relevant = []; pairs = []; words = [] }

-- enough for every row of the table
abbrev pub enough : Lent
enough = record { work = 4; pairs = 100; literals = 100 }

-- ---- the row of K from 1 to {1} (R14.6)

abbrev pub k_row : List Clause
k_row = (3 ∷ []) ∷ (3 ∷ 4 ∷ []) ∷ (1 ∷ 4 ∷ []) ∷ (0 ∷ 2 ∷ 5 ∷ []) ∷ (4 ∷ []) ∷ []

pub k-row : relation_row (plain model_k) 1 (1 ∷ []) enough ≡ got k_row
unfolding relation_row relation_clauses simplified dropped cnf_word bounded states_claimed checked every counted well_defined literal defining ordered defined
k-row = refl

-- offset, length and literals as R14.6 has them
pub k-row-words : (pairs_from 0 k_row ≡ 0 ∷ 1 ∷ 1 ∷ 2 ∷ 3 ∷ 2 ∷ 5 ∷ 3 ∷ 8 ∷ 1 ∷ []) × (literals_of k_row ≡ 3 ∷ 3 ∷ 4 ∷ 1 ∷ 4 ∷ 0 ∷ 2 ∷ 5 ∷ 4 ∷ [])
k-row-words = (refl, refl)

-- from the bytes of the text
pub k-row_text : and_then (read_transition text_k 3 4) (λ c. relation_row (plain c) 1 (1 ∷ []) enough) ≡ got k_row
k-row_text = rw k_read k-row

-- input 0 leads from 1 to 0, which is not claimed
pub k-row_open : satisfies (false ∷ true ∷ false ∷ []) k_row ≡ true
unfolding satisfies literal_true
k-row_open = refl

pub k-row-means : RowMeans model_k [] [] 1 (ToTarget model_k 1 (1 ∷ [])) k_row
k-row-means = relation_means (plain model_k) 1 (1 ∷ []) enough k_row (record { latches = refl }) k-row

-- with both targets claimed the row is complete
abbrev pub k_full : List Clause
k_full = (3 ∷ []) ∷ (3 ∷ 4 ∷ []) ∷ (1 ∷ 4 ∷ []) ∷ (0 ∷ 2 ∷ 5 ∷ []) ∷ (5 ∷ []) ∷ (4 ∷ []) ∷ []

pub k_full_lem : (relation_row (plain model_k) 1 (0 ∷ 1 ∷ []) enough ≡ got k_full) × Unsatisfiable 3 k_full
unfolding relation_row relation_clauses simplified dropped cnf_word bounded states_claimed checked every counted well_defined literal defining ordered defined satisfies literal_true
k_full_lem = (refl, refuted 3 k_full refl)

pub k_full_means : Complete model_k [] [] (ToTarget model_k 1 (0 ∷ 1 ∷ []))
k_full_means = (relation_means (plain model_k) 1 (0 ∷ 1 ∷ []) enough k_full (record { latches = refl }) k_full_lem.0).complete.0 k_full_lem.1

-- ---- terminal lists of K (R13.3)

abbrev pub k_both : List Clause
k_both = (3 ∷ 4 ∷ []) ∷ (1 ∷ 4 ∷ []) ∷ (0 ∷ 2 ∷ 5 ∷ []) ∷ (3 ∷ []) ∷ (2 ∷ []) ∷ (4 ∷ []) ∷ []

pub k-both : (terminal_list (plain model_k) 0 (0 ∷ 1 ∷ []) enough ≡ got k_both) × Unsatisfiable 3 k_both
unfolding terminal_list terminal_clauses simplified dropped cnf_word bounded states_claimed checked every counted well_defined literal defining ordered defined satisfies literal_true
k-both = (refl, refuted 3 k_both refl)

abbrev pub k_zero : List Clause
k_zero = (3 ∷ 4 ∷ []) ∷ (1 ∷ 4 ∷ []) ∷ (0 ∷ 2 ∷ 5 ∷ []) ∷ (3 ∷ []) ∷ (4 ∷ []) ∷ []

-- in state 1, input 0 leaves the output 0
pub k-zero : (terminal_list (plain model_k) 0 (0 ∷ []) enough ≡ got k_zero) × (satisfies (false ∷ true ∷ false ∷ []) k_zero ≡ true)
unfolding terminal_list terminal_clauses simplified dropped cnf_word bounded states_claimed checked every counted well_defined literal defining ordered defined satisfies literal_true
k-zero = (refl, refl)

pub k-both-means : TerminalComplete model_k [] [] 0 (0 ∷ 1 ∷ [])
k-both-means = (terminal_means (plain model_k) 0 (0 ∷ 1 ∷ []) enough k_both (record { latches = refl }) k-both.0).complete.0 k-both.1

pub k-zero-means : TerminalComplete model_k [] [] 0 (0 ∷ []) → ⊥
k-zero-means t =
    (terminal_means (plain model_k) 0 (0 ∷ []) enough k_zero (record { latches = refl }) k-zero.0).complete.1 t (false ∷ true ∷ false ∷ []) refl k-zero.1

-- ---- a next literal that is a constant (R13.4)

abbrev pub text_z : Bytes
text_z =
    bytes "aag 1 0 1 0 0\n2 0\n"

abbrev pub model_z : Circuit
model_z = record { variables = 1; inputs = []; latches = record { current = 2; next = 0 } ∷ []; outputs = []; gates = [] }

pub z_read : read_transition text_z 0 2 ≡ got model_z
unfolding read_transition good_text every number_of counted well_defined literal defining ordered defined
z_read = refl

pub z_row : relation_row (plain model_z) 0 (0 ∷ []) enough ≡ got ((0 ∷ []) ∷ [] ∷ [])
unfolding relation_row relation_clauses simplified dropped cnf_word bounded states_claimed checked every counted well_defined literal defining ordered defined
z_row = refl

pub z_row_text : and_then (read_transition text_z 0 2) (λ c. relation_row (plain c) 0 (0 ∷ []) enough) ≡ got ((0 ∷ []) ∷ [] ∷ [])
z_row_text = rw z_read z_row

-- ---- the row of Q (R13.6)

abbrev pub q_row : List Clause
q_row = (1 ∷ []) ∷ (3 ∷ 4 ∷ []) ∷ (3 ∷ 4 ∷ []) ∷ (2 ∷ 5 ∷ []) ∷ (1 ∷ 2 ∷ []) ∷ (1 ∷ 2 ∷ []) ∷ (0 ∷ 3 ∷ []) ∷ (4 ∷ []) ∷ []

pub q_row_lem : (relation_row (plain model_q) 1 (1 ∷ []) enough ≡ got q_row) × Unsatisfiable 3 q_row
unfolding relation_row relation_clauses simplified dropped cnf_word bounded states_claimed checked every counted well_defined literal defining ordered defined satisfies literal_true
q_row_lem = (refl, refuted 3 q_row refl)

pub q_row_text : and_then (read_transition text_q 6 4) (λ c. relation_row (plain c) 1 (1 ∷ []) enough) ≡ got q_row
q_row_text = rw q_read q_row_lem.0

-- ---- a row with outputs: outputs 1 and 3 are observed of four, which are true, the input, false and the latch; the latch takes the input

abbrev pub model_w : Circuit
model_w =
    record { variables = 2; inputs = 2 ∷ []; latches = record { current = 4; next = 2 } ∷ []; outputs = 1 ∷ 2 ∷ 0 ∷ 4 ∷ []; gates = [] }

abbrev pub w_row : List Clause
w_row = (3 ∷ []) ∷ (1 ∷ 2 ∷ []) ∷ (0 ∷ 2 ∷ []) ∷ []

-- from state 1 the input 0 leads to 0 with the bits 0, 1; the input 1 to 1 with the bits 1, 1
pub w-row : (transducer_row (plain model_w) 1 (1 ∷ 3 ∷ []) (0 ∷ 0 ∷ 2 ∷ 1 ∷ 0 ∷ 3 ∷ []) enough ≡ got w_row) × Unsatisfiable 2 w_row
unfolding transducer_row transducer_clauses simplified dropped cnf_word bounded outcomes_claimed checked every counted well_defined literal defining ordered defined satisfies literal_true
w-row = (refl, refuted 2 w_row refl)

pub w-row-means : Complete model_w [] [] (ToOutcome model_w 1 (1 ∷ 3 ∷ []) (outcomes_of (0 ∷ 0 ∷ 2 ∷ 1 ∷ 0 ∷ 3 ∷ [])))
w-row-means =
    (transducer_means (plain model_w) 1 (1 ∷ 3 ∷ []) (0 ∷ 0 ∷ 2 ∷ 1 ∷ 0 ∷ 3 ∷ []) enough w_row (record { latches = refl }) w-row.0).complete.0 w-row.1

-- the bits of the first outcome in the other order: no input leads there, so its clause has both signs of the input and is dropped, and the input 0 escapes
abbrev pub w_open : List Clause
w_open = (3 ∷ []) ∷ (0 ∷ 2 ∷ []) ∷ []

pub w_open_lem : (transducer_row (plain model_w) 1 (1 ∷ 3 ∷ []) (0 ∷ 0 ∷ 1 ∷ 1 ∷ 0 ∷ 3 ∷ []) enough ≡ got w_open) × (satisfies (false ∷ true ∷ []) w_open ≡ true)
unfolding transducer_row transducer_clauses simplified dropped cnf_word bounded outcomes_claimed checked every counted well_defined literal defining ordered defined satisfies literal_true
w_open_lem = (refl, refl)

-- ---- the outcome of K's step in state 1 with input 1 (R13.1) is the one that the word 1 leads to

pub k-step-leads : ToOutcome model_k 1 (0 ∷ []) (record { target = 1; high = 0; low = 1 } ∷ []) 1
k-step-leads = step-leads (record_of model_k) (words_of_gates model_k) 4 1 1 (record { target = 1; high = 0; low = 1 }) (record { latches = refl }) k-steps.0 refl
