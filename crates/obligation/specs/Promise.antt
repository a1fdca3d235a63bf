-- What each obligation promises of its answer, the lent buffers and the work words, for all arguments (R16.1); and on acceptance what the
-- clauses mean (demand 3, R11).
use Rattle.std.specs.Prelude.{ℕ, List, Result, ◌≡◌, length}
use Rattle.lists.specs.Answer.{Answer, got, refused, and_then}
use Rattle.lists.specs.Parts.{front, zeros}
use Rattle.aiger.specs.declared.Refusal.{Refusal}
use Rattle.aiger.specs.Refusals.{answered}
use Rattle.cnf.specs.declared.ClauseCounts.{ClauseCounts}
use Rattle.cnf.specs.Clauses.{Clause, literals_of, pairs_from, returned}
use Rattle.obligation_spec.specs.Lists.{outcomes_of}
use Rattle.obligation_spec.specs.Calls.{Asked, Lent, circuit, predicate, relation_row, transducer_row, terminal_list}
use Rattle.obligation_spec.specs.Meaning.{RowMeans, TerminalMeans, ToTarget, ToOutcome}
use Rattle.obligation.specs.declared.Claim.{Claim}
use Rattle.obligation.specs.declared.Claim.TheVariants.{Relation, Transducer, Terminal}

-- how many clauses and literals there are
abbrev pub sizes : List Clause → ClauseCounts
sizes cs = record { clauses = length cs; literals = length (literals_of cs) }

-- R10.4: a result buffer after the call: the pairs in front and the rest as it was; all as it was where the call refuses
abbrev pub pairs_after : Answer (List Clause) → List ℕ → List ℕ
pairs_after (got cs) pairs = front pairs (pairs_from 0 cs)
pairs_after (refused n) pairs = pairs

-- R10.4: the same for the literals
abbrev pub literals_after : Answer (List Clause) → List ℕ → List ℕ
literals_after (got cs) words = front words (literals_of cs)
literals_after (refused n) words = words

-- the buffers that are lent: pairs, literals and work words
pub record Buffers : Type 0 where
  pub pairs : List ℕ
  pub literals : List ℕ
  pub work : List ℕ

abbrev pub buffers_of : List ℕ → List ℕ → List ℕ → Buffers
buffers_of pairs literals work = record { pairs = pairs; literals = literals; work = work }

abbrev pub lent_of : Buffers → Lent
lent_of b = record { work = length b.work; pairs = length b.pairs; literals = length b.literals }

-- R16.1: the answer r of a call whose definition says `answer`, and the buffers after it
pub record Makes (answer : Answer (List Clause)) (b : Buffers) (r : Result ClauseCounts Refusal) (after : Buffers) : Type 0 where
  pub answers : answered r ≡ and_then answer (λ cs. got (sizes cs))
  pub pairs : after.pairs ≡ pairs_after answer b.pairs
  pub literals : after.literals ≡ literals_after answer b.literals
  pub clears : after.work ≡ zeros (length b.work)

-- R11.6: the clauses returned: as many as the answer says, in the buffers at exit
abbrev pub clauses_after : ClauseCounts → Buffers → List Clause
clauses_after t after = returned t.clauses after.pairs after.literals

-- R16.1, R0.3: the promise of `relation_row_completeness_cnf`
pub record MakesRelation (q : Asked) (source : ℕ) (targets : List ℕ) (b : Buffers) (r : Result ClauseCounts Refusal) (after : Buffers) : Type 0 where
  pub makes : Makes (relation_row q source targets (lent_of b)) b r after
  pub means : (t : ClauseCounts) → answered r ≡ got t → RowMeans (circuit q) q.relevant (predicate q) source (ToTarget (circuit q) source targets) (clauses_after t after)

-- R16.1, R0.3: the promise of `transducer_row_completeness_cnf`
pub record MakesTransducer (q : Asked) (source : ℕ) (observed outcomes : List ℕ) (b : Buffers) (r : Result ClauseCounts Refusal) (after : Buffers) : Type 0 where
  pub makes : Makes (transducer_row q source observed outcomes (lent_of b)) b r after
  pub means : (t : ClauseCounts) → answered r ≡ got t → RowMeans (circuit q) q.relevant (predicate q) source (ToOutcome (circuit q) source observed (outcomes_of outcomes)) (clauses_after t after)

-- R16.1, R7.7: the promise of `terminal_completeness_cnf`
pub record MakesTerminal (q : Asked) (bad : ℕ) (states : List ℕ) (b : Buffers) (r : Result ClauseCounts Refusal) (after : Buffers) : Type 0 where
  pub makes : Makes (terminal_list q bad states (lent_of b)) b r after
  pub means : (t : ClauseCounts) → answered r ≡ got t → TerminalMeans (circuit q) q.relevant (predicate q) bad states (clauses_after t after)

-- R16.1: the promise of `make`, by what is claimed
abbrev pub Promised : Claim → Asked → Buffers → Result ClauseCounts Refusal → Buffers → Type 0
Promised (Relation source targets) q b r after = MakesRelation q source targets.now b r after
Promised (Transducer source observed outcomes) q b r after = MakesTransducer q source observed.now outcomes.now b r after
Promised (Terminal bad states) q b r after = MakesTerminal q bad states.now b r after
