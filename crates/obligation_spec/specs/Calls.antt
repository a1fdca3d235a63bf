-- What each obligation answers (R7; refusals R9.7, R9.11, R9.13, R9.14, R9.20 in this order): its clauses, or the first number.
use Rattle.std.specs.Prelude.{ℕ, ◌*◌, List, leb, ltb, length}
use Rattle.lists.specs.Answer.{Answer, got, unless, and_then}
use Rattle.model.specs.declared.AigerTransition.{AigerTransition}
use Rattle.model.specs.Circuit.{Circuit, circuit_of}
use Rattle.model.specs.Checked.{checked}
use Rattle.cnf.specs.Clauses.{Clause, literals_of, clauses_in}
use Rattle.obligation_spec.specs.Lists.{outcomes_of, relation_clauses, transducer_clauses, terminal_clauses}
use Rattle.obligation_spec.specs.Limits.{bounded, is_state, states_claimed, outcomes_claimed}

-- R12.3: what every obligation is asked about: a model's record and gate words, relevant inputs, and a predicate as pairs and words
pub record Asked : Type 0 where
  pub model : AigerTransition
  pub gates : List ℕ
  pub relevant : List ℕ
  pub pairs : List ℕ
  pub words : List ℕ

-- what is asked, of a record, gate words, relevant inputs and predicate
abbrev pub asked_of : AigerTransition → List ℕ → List ℕ → List ℕ → List ℕ → Asked
asked_of m g relevant pairs words = record { model = m; gates = g; relevant = relevant; pairs = pairs; words = words }

-- R12.4: the circuit that the record and the gate words stand for
abbrev pub circuit : Asked → Circuit
circuit q = circuit_of q.model q.gates

-- R12.3: the predicate's clauses, as its pairs cut them from its words
abbrev pub predicate : Asked → List Clause
predicate q = clauses_in q.words q.pairs

-- how many words are lent: for work, and for the pairs and the literals of the result
pub record Lent : Type 0 where
  pub work : ℕ
  pub pairs : ℕ
  pub literals : ℕ

-- R9.20: the clauses, where the words lent for pairs (two for each clause) and for literals are enough
abbrev pub within : Lent → List Clause → Answer (List Clause)
within lent cs =
    unless 20 (leb (2 * length cs) lent.pairs)
    (unless 20 (leb (length (literals_of cs)) lent.literals)
    (got cs))

-- R9.7, R9.11, R9.13: the model, where the boundary is right
abbrev pub asked : Asked → Lent → Answer Circuit
asked q lent = and_then (checked q.model q.gates lent.work) (λ c. unless 13 (bounded c q.relevant q.pairs q.words) (got c))

-- R9.14, R9.20: the rest of a row with claimed targets, for the circuit of an accepted model and boundary
abbrev pub relation_on : Circuit → Asked → ℕ → List ℕ → Lent → Answer (List Clause)
relation_on c q source targets lent =
    unless 14 (is_state c source)
    (unless 14 (states_claimed c targets)
    (within lent (relation_clauses c q.relevant (predicate q) source targets)))

-- R9.14, R9.20: the same for a row with claimed outcomes
abbrev pub transducer_on : Circuit → Asked → ℕ → List ℕ → List ℕ → Lent → Answer (List Clause)
transducer_on c q source observed outcomes lent =
    unless 14 (is_state c source)
    (unless 14 (outcomes_claimed c observed (outcomes_of outcomes))
    (within lent (transducer_clauses c q.relevant (predicate q) source observed (outcomes_of outcomes))))

-- R9.14, R9.20: the same for a terminal list
abbrev pub terminal_on : Circuit → Asked → ℕ → List ℕ → Lent → Answer (List Clause)
terminal_on c q bad states lent =
    unless 14 (ltb bad (length c.outputs))
    (unless 14 (states_claimed c states)
    (within lent (terminal_clauses c q.relevant (predicate q) bad states)))

-- R7.5: what `relation_row_completeness_cnf` answers
unfoldable pub relation_row : Asked → ℕ → List ℕ → Lent → Answer (List Clause)
relation_row q source targets lent = and_then (asked q lent) (λ c. relation_on c q source targets lent)

-- R7.5: what `transducer_row_completeness_cnf` answers
unfoldable pub transducer_row : Asked → ℕ → List ℕ → List ℕ → Lent → Answer (List Clause)
transducer_row q source observed outcomes lent = and_then (asked q lent) (λ c. transducer_on c q source observed outcomes lent)

-- R7.5: what `terminal_completeness_cnf` answers
unfoldable pub terminal_list : Asked → ℕ → List ℕ → Lent → Answer (List Clause)
terminal_list q bad states lent = and_then (asked q lent) (λ c. terminal_on c q bad states lent)
