-- Worked rows of a wider model, and of one with three latches: what a single latch, input or gate cannot tell apart. They rest on the definitions alone, not on their laws.
use Prim.Native.Nat.{ℕ}
use mathlib.Core.List.{List, [], ◌∷◌, ◌++◌}
use mathlib.Core.Path.{◌≡◌, refl}
use Rattle.lists.specs.Answer.{got, refused}
use Rattle.lists.specs.Tests.{every}
use Rattle.aiger.specs.Defined.{literal, defining, ordered, defined}
use Rattle.aiger.specs.Gates.{gate_from}
use Rattle.model.specs.Circuit.{Circuit, record_of, words_of_gates}
use Rattle.model.specs.Limits.{counted, well_defined}
use Rattle.model.specs.Checked.{checked}
use Rattle.cnf.specs.Clauses.{Clause}
use Rattle.cnf.specs.Simplified.{cnf_word, dropped, simplified}
use Rattle.obligation_spec.specs.Lists.{relation_clauses, transducer_clauses, terminal_clauses}
use Rattle.obligation_spec.specs.Limits.{bounded, states_claimed, outcomes_claimed}
use Rattle.obligation_spec.specs.Calls.{Asked, Lent, relation_row, transducer_row, terminal_list}

-- nothing is listed in the order of its variables, a gate stands before its operand, and a next literal, an operand and an output are negated
abbrev pub model_x : Circuit
model_x =
    record {
      variables = 7;
      inputs = 4 ∷ 2 ∷ 14 ∷ [];
      latches = record { current = 10; next = 12 } ∷ record { current = 6; next = 3 } ∷ [];
      outputs = 1 ∷ 12 ∷ 7 ∷ [];
      gates = gate_from 12 8 10 ∷ gate_from 8 5 6 ∷ [];
    }

-- X with these gate words and relevant inputs, under the predicate: the second relevant input; the first, or not the second
abbrev pub asking_x : List ℕ → List ℕ → Asked
asking_x gates relevant = record { model = record_of model_x; gates = gates; relevant = relevant; pairs = 0 ∷ 1 ∷ 1 ∷ 2 ∷ []; words = 3 ∷ 1 ∷ 2 ∷ [] }

-- the relevant inputs are 1 and 2, which are the literals 2 and 14
abbrev pub ask_x : Asked
ask_x = asking_x (words_of_gates model_x) (1 ∷ 2 ∷ [])

-- words lent for work, pairs and literals
abbrev pub lend : ℕ → ℕ → ℕ → Lent
lend work pairs literals = record { work = work; pairs = pairs; literals = literals }

-- ---- the clauses, in order, in just enough words

-- bit k of the source is that of the k-th latch: 10 is 0, 6 is 1
abbrev pub source_clauses : List Clause
source_clauses = (8 ∷ []) ∷ (5 ∷ []) ∷ []

-- the predicate's two clauses, then three of the gate 12 and three of the gate 8, then the claims
abbrev pub body_with : List Clause → List Clause
body_with claims =
    (13 ∷ [])
    ∷ (1 ∷ 12 ∷ [])
    ∷ (7 ∷ 10 ∷ [])
    ∷ (9 ∷ 10 ∷ [])
    ∷ (6 ∷ 8 ∷ 11 ∷ [])
    ∷ (2 ∷ 6 ∷ [])
    ∷ (5 ∷ 6 ∷ [])
    ∷ (3 ∷ 4 ∷ 7 ∷ [])
    ∷ claims

-- each bit of a target is held against its own next literal: 12, and 3, which is negated
pub relation_row_lem : relation_row ask_x 2 (1 ∷ 2 ∷ []) (lend 8 24 23) ≡ got (source_clauses ++ body_with ((0 ∷ 10 ∷ []) ∷ (1 ∷ 11 ∷ []) ∷ []))
unfolding relation_row relation_clauses simplified dropped cnf_word bounded states_claimed checked every counted well_defined literal defining ordered defined
relation_row_lem = refl

-- outputs 0 and 2 are observed: output 0 is true, so that the first claim's clause is dropped and the second has no literal of it
pub transducer_row_lem : transducer_row ask_x 2 (0 ∷ 2 ∷ []) (1 ∷ 0 ∷ 2 ∷ 2 ∷ 0 ∷ 1 ∷ []) (lend 8 22 22) ≡ got (source_clauses ++ body_with ((1 ∷ 4 ∷ 11 ∷ []) ∷ []))
unfolding transducer_row transducer_clauses simplified dropped cnf_word bounded outcomes_claimed checked every counted well_defined literal defining ordered defined
transducer_row_lem = refl

-- each bit of a claimed state is held against its own latch; output 1, negated, comes last
pub terminal_list_lem : terminal_list ask_x 1 (1 ∷ 2 ∷ []) (lend 8 22 22) ≡ got (body_with ((5 ∷ 8 ∷ []) ∷ (4 ∷ 9 ∷ []) ∷ (10 ∷ []) ∷ []))
unfolding terminal_list terminal_clauses simplified dropped cnf_word bounded states_claimed checked every counted well_defined literal defining ordered defined
terminal_list_lem = refl

-- a word less for pairs or for literals is too few
pub a_word-less :
    (relation_row ask_x 2 (1 ∷ 2 ∷ []) (lend 8 23 23) ≡ refused 20)
    × (relation_row ask_x 2 (1 ∷ 2 ∷ []) (lend 8 24 22) ≡ refused 20)
    × (transducer_row ask_x 2 (0 ∷ 2 ∷ []) (1 ∷ 0 ∷ 2 ∷ 2 ∷ 0 ∷ 1 ∷ []) (lend 8 21 22) ≡ refused 20)
    × (transducer_row ask_x 2 (0 ∷ 2 ∷ []) (1 ∷ 0 ∷ 2 ∷ 2 ∷ 0 ∷ 1 ∷ []) (lend 8 22 21) ≡ refused 20)
    × (terminal_list ask_x 1 (1 ∷ 2 ∷ []) (lend 8 21 22) ≡ refused 20)
    × (terminal_list ask_x 1 (1 ∷ 2 ∷ []) (lend 8 22 21) ≡ refused 20)
unfolding relation_row relation_clauses transducer_row transducer_clauses terminal_list terminal_clauses simplified dropped cnf_word bounded states_claimed outcomes_claimed checked every counted well_defined literal defining ordered defined
a_word-less = (refl, refl, refl, refl, refl, refl)

-- ---- which reason comes first (R10.1): every fault at once, then one mended after the other

-- a gate word too few, and relevant inputs that do not rise
abbrev pub few_gates_x : Asked
few_gates_x = asking_x (12 ∷ 8 ∷ 10 ∷ 8 ∷ 5 ∷ []) (2 ∷ 1 ∷ [])

-- only the relevant inputs are at fault
abbrev pub falling_x : Asked
falling_x = asking_x (words_of_gates model_x) (2 ∷ 1 ∷ [])

-- 7, 11, 13, 14 for the source, 14 for a target, 20
pub relation_first_wins :
    (relation_row few_gates_x 4 (4 ∷ []) (lend 7 0 0) ≡ refused 7)
    × (relation_row few_gates_x 4 (4 ∷ []) (lend 8 0 0) ≡ refused 11)
    × (relation_row falling_x 4 (4 ∷ []) (lend 8 0 0) ≡ refused 13)
    × (relation_row ask_x 4 (1 ∷ []) (lend 8 0 0) ≡ refused 14)
    × (relation_row ask_x 2 (4 ∷ []) (lend 8 0 0) ≡ refused 14)
    × (relation_row ask_x 2 (1 ∷ []) (lend 8 0 0) ≡ refused 20)
unfolding relation_row relation_clauses simplified dropped cnf_word bounded states_claimed checked every counted well_defined literal defining ordered defined
relation_first_wins = (refl, refl, refl, refl, refl, refl)

-- 7, 11, 13, 14 for the source, for an observed output and for an outcome's target, 20
pub transducer_first_wins :
    (transducer_row few_gates_x 4 (3 ∷ []) (4 ∷ 0 ∷ 0 ∷ []) (lend 7 0 0) ≡ refused 7)
    × (transducer_row few_gates_x 4 (3 ∷ []) (4 ∷ 0 ∷ 0 ∷ []) (lend 8 0 0) ≡ refused 11)
    × (transducer_row falling_x 4 (3 ∷ []) (4 ∷ 0 ∷ 0 ∷ []) (lend 8 0 0) ≡ refused 13)
    × (transducer_row ask_x 4 (2 ∷ []) (3 ∷ 0 ∷ 0 ∷ []) (lend 8 0 0) ≡ refused 14)
    × (transducer_row ask_x 2 (3 ∷ []) (3 ∷ 0 ∷ 0 ∷ []) (lend 8 0 0) ≡ refused 14)
    × (transducer_row ask_x 2 (2 ∷ []) (4 ∷ 0 ∷ 0 ∷ []) (lend 8 0 0) ≡ refused 14)
    × (transducer_row ask_x 2 (2 ∷ []) (3 ∷ 0 ∷ 0 ∷ []) (lend 8 0 0) ≡ refused 20)
unfolding transducer_row transducer_clauses simplified dropped cnf_word bounded outcomes_claimed checked every counted well_defined literal defining ordered defined
transducer_first_wins = (refl, refl, refl, refl, refl, refl, refl)

-- 7, 11, 13, 14 for the bad output and for a claimed state, 20
pub terminal_first_wins :
    (terminal_list few_gates_x 3 (4 ∷ []) (lend 7 0 0) ≡ refused 7)
    × (terminal_list few_gates_x 3 (4 ∷ []) (lend 8 0 0) ≡ refused 11)
    × (terminal_list falling_x 3 (4 ∷ []) (lend 8 0 0) ≡ refused 13)
    × (terminal_list ask_x 3 (3 ∷ []) (lend 8 0 0) ≡ refused 14)
    × (terminal_list ask_x 2 (4 ∷ []) (lend 8 0 0) ≡ refused 14)
    × (terminal_list ask_x 2 (3 ∷ []) (lend 8 0 0) ≡ refused 20)
unfolding terminal_list terminal_clauses simplified dropped cnf_word bounded states_claimed checked every counted well_defined literal defining ordered defined
terminal_first_wins = (refl, refl, refl, refl, refl, refl)

-- ---- three latches: eight states, where 2 × L and 2^L part

-- each latch takes the value of the next one, the last that of the first
abbrev pub model_y : Circuit
model_y =
    record {
      variables = 3;
      inputs = [];
      latches = record { current = 2; next = 4 } ∷ record { current = 4; next = 6 } ∷ record { current = 6; next = 2 } ∷ [];
      outputs = 0 ∷ [];
      gates = [];
    }

abbrev pub ask_y : Asked
ask_y = record { model = record_of model_y; gates = []; relevant = []; pairs = []; words = [] }

-- states 6 and 7 are taken as source and as claims; the bad output is false, so that its negation is true and the clause dropped
pub states_to_7 :
    (relation_row ask_y 6 (5 ∷ 7 ∷ []) (lend 4 10 9) ≡ got ((0 ∷ []) ∷ (3 ∷ []) ∷ (5 ∷ []) ∷ (0 ∷ 2 ∷ 5 ∷ []) ∷ (0 ∷ 2 ∷ 4 ∷ []) ∷ []))
    × (transducer_row ask_y 7 [] (6 ∷ 0 ∷ 0 ∷ []) (lend 4 8 6) ≡ got ((1 ∷ []) ∷ (3 ∷ []) ∷ (5 ∷ []) ∷ (0 ∷ 3 ∷ 4 ∷ []) ∷ []))
    × (terminal_list ask_y 0 (6 ∷ 7 ∷ []) (lend 4 4 6) ≡ got ((1 ∷ 2 ∷ 4 ∷ []) ∷ (0 ∷ 2 ∷ 4 ∷ []) ∷ []))
unfolding relation_row relation_clauses transducer_row transducer_clauses terminal_list terminal_clauses simplified dropped cnf_word bounded states_claimed outcomes_claimed checked every counted well_defined literal defining ordered defined
states_to_7 = (refl, refl, refl)

-- 8 is no state, as source or as claim
pub no_state_8 :
    (relation_row ask_y 8 [] (lend 4 100 100) ≡ refused 14)
    × (relation_row ask_y 7 (8 ∷ []) (lend 4 100 100) ≡ refused 14)
    × (transducer_row ask_y 8 [] [] (lend 4 100 100) ≡ refused 14)
    × (transducer_row ask_y 7 [] (8 ∷ 0 ∷ 0 ∷ []) (lend 4 100 100) ≡ refused 14)
    × (terminal_list ask_y 0 (8 ∷ []) (lend 4 100 100) ≡ refused 14)
unfolding relation_row transducer_row terminal_list bounded states_claimed outcomes_claimed checked every counted well_defined literal defining ordered defined
no_state_8 = (refl, refl, refl, refl, refl)
