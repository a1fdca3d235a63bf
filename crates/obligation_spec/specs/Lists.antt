-- The clauses of an obligation (R7): the lists of AIGER literals that they are made of, in order, each simplified.
use Rattle.std.specs.Prelude.{ℕ, ◌/◌, Bool, not, cond, List, [], ◌∷◌, ◌++◌, map, length, get_or}
use Rattle.lists.specs.Bits.{odd, bits}
use Rattle.lists.specs.Words.{triples_of, words_of}
use Rattle.aiger.specs.declared.Gate.{Gate}
use Rattle.model.specs.Circuit.{Circuit, currents_of, nexts_of}
use Rattle.model_step.specs.declared.Outcome.{Outcome}
use Rattle.cnf.specs.Clauses.{Clause}
use Rattle.cnf.specs.Simplified.{opposite, simplified}

-- the literal that is true exactly where l has the value b
abbrev pub valued : ℕ → Bool → ℕ
valued l b = cond b l (opposite l)

-- R7.2: for each latch a list that fixes it at the source's bit
abbrev pub source_lists : List ℕ → List Bool → List (List ℕ)
source_lists [] bs = []
source_lists (l ∷ ls) [] = []
source_lists (l ∷ ls) (b ∷ bs) = (valued l b ∷ []) ∷ source_lists ls bs

-- R12.3: the literal of a predicate's word: the relevant input that it indexes, plain where the word is odd and negated where it is even
abbrev pub predicate_literal : List ℕ → List ℕ → ℕ → ℕ
predicate_literal inputs relevant w = valued (get_or inputs (get_or relevant (w / 2) 0) 0) (odd w)

-- R7.3: the three lists of a gate (Tseitin): the output implies the left operand and the right one, and both imply the output
abbrev pub gate_lists : Gate → List (List ℕ)
gate_lists g =
    (opposite g.output ∷ g.left ∷ [])
    ∷ (opposite g.output ∷ g.right ∷ [])
    ∷ (g.output ∷ opposite g.left ∷ opposite g.right ∷ [])
    ∷ []

-- R7.4: the clause that is true where some literal has not its bit
abbrev pub differing : List ℕ → List Bool → List ℕ
differing [] bs = []
differing (l ∷ ls) [] = []
differing (l ∷ ls) (b ∷ bs) = valued l (not b) ∷ differing ls bs

-- R7.4: a claimed target: the next state differs
abbrev pub target_list : Circuit → ℕ → List ℕ
target_list c t = differing (nexts_of c) (bits (length c.latches) t)

-- R7.4: the literals of the observed outputs
abbrev pub observed_of : Circuit → List ℕ → List ℕ
observed_of c observed = map (λ i. get_or c.outputs i 0) observed

-- R12.7: the bits of an outcome's outputs, lowest first: those of the low word, then those of the high one
abbrev pub output_bits : Outcome → List Bool
output_bits o = bits 64 o.low ++ bits 64 o.high

-- R7.4: a claimed outcome: the next state or an observed output differs; bit k is that of the k-th observed output
abbrev pub outcome_list : Circuit → List ℕ → Outcome → List ℕ
outcome_list c observed o = target_list c o.target ++ differing (observed_of c observed) (output_bits o)

-- R7.4: a claimed state of a terminal list: the state differs
abbrev pub state_list : Circuit → ℕ → List ℕ
state_list c s = differing (currents_of c) (bits (length c.latches) s)

-- R12.8: the outcomes of flat words, three words each: target, high, low
abbrev pub outcomes_of : List ℕ → List Outcome
outcomes_of ws = triples_of (λ t h l. record { target = t; high = h; low = l }) ws

module _ (c : Circuit) (relevant : List ℕ) (predicate : List Clause) where
  -- R7.2: what rows and terminal lists share: the predicate's lists, then the gates', then the claims'
  abbrev pub body_lists : List (List ℕ) → List (List ℕ)
  body_lists claims = map (map (predicate_literal c.inputs relevant)) predicate ++ (words_of gate_lists c.gates ++ claims)

  -- R7.2: in a row the source's lists come first
  abbrev pub row_lists : ℕ → List (List ℕ) → List (List ℕ)
  row_lists source claims = source_lists (currents_of c) (bits (length c.latches) source) ++ body_lists claims

  -- R7.5: the clauses of `relation_row_completeness_cnf`
  unfoldable pub relation_clauses : ℕ → List ℕ → List Clause
  relation_clauses source targets = words_of simplified (row_lists source (map (target_list c) targets))

  -- R7.5: the clauses of `transducer_row_completeness_cnf`
  unfoldable pub transducer_clauses : ℕ → List ℕ → List Outcome → List Clause
  transducer_clauses source observed outcomes = words_of simplified (row_lists source (map (outcome_list c observed) outcomes))

  -- R7.5, R7.6: the clauses of `terminal_completeness_cnf`, the last for the bad output at 0
  unfoldable pub terminal_clauses : ℕ → List ℕ → List Clause
  terminal_clauses bad states = words_of simplified (body_lists (map (state_list c) states ++ (opposite (get_or c.outputs bad 0) ∷ []) ∷ []))
