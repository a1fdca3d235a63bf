-- The answers of the obligations (R7) as flat structs, and what their exports promise: answer, buffers, and what the clauses mean (R11).
use Rattle.std.specs.Prelude.{ℕ, List, ◌≡◌, length}
use Rattle.lists.specs.Answer.{Answer, got, refused}
use Rattle.lists.specs.Parts.{zeros}
use Rattle.cnf.specs.Clauses.{Clause, literals_of, returned}
use Rattle.obligation_spec.specs.Lists.{outcomes_of}
use Rattle.obligation_spec.specs.Calls.{Asked, circuit, predicate, relation_row, transducer_row, terminal_list}
use Rattle.obligation_spec.specs.Meaning.{RowMeans, TerminalMeans, ToTarget, ToOutcome}
use Rattle.obligation.specs.Promise.{pairs_after, literals_after, Buffers, lent_of}
use Rattle.nitrasovy.specs.declared.obligations.NitMade.{NitMade}
use Rattle.nitrasovy.specs.Reasons.{made_reasons, Among}

-- reason 0 and how many clauses and literals there are, or the number of the reason
abbrev pub flat_made : Answer (List Clause) → NitMade
flat_made (got cs) = record { reason = 0; clauses = length cs; literals = length (literals_of cs) }
flat_made (refused n) = record { reason = n; clauses = 0; literals = 0 }

-- the flat answer of a call whose definition says `answer`, which numbers it can have, and the buffers after it
pub record MakesFlat (answer : Answer (List Clause)) (b : Buffers) (r : NitMade) (after : Buffers) : Type 0 where
  pub answers : r ≡ flat_made answer
  pub numbered : Among made_reasons answer
  pub pairs : after.pairs ≡ pairs_after answer b.pairs
  pub literals : after.literals ≡ literals_after answer b.literals
  pub clears : after.work ≡ zeros (length b.work)

-- the clauses returned: as many as the answer says, in the buffers at exit
abbrev pub clauses_flat : NitMade → Buffers → List Clause
clauses_flat r after = returned r.clauses after.pairs after.literals

-- a row with claimed targets
pub record RelationFlat (q : Asked) (source : ℕ) (targets : List ℕ) (b : Buffers) (r : NitMade) (after : Buffers) : Type 0 where
  pub makes : MakesFlat (relation_row q source targets (lent_of b)) b r after
  pub means : r.reason ≡ 0 → RowMeans (circuit q) q.relevant (predicate q) source (ToTarget (circuit q) source targets) (clauses_flat r after)

-- a row with claimed outcomes
pub record TransducerFlat (q : Asked) (source : ℕ) (observed outcomes : List ℕ) (b : Buffers) (r : NitMade) (after : Buffers) : Type 0 where
  pub makes : MakesFlat (transducer_row q source observed outcomes (lent_of b)) b r after
  pub means : r.reason ≡ 0 → RowMeans (circuit q) q.relevant (predicate q) source (ToOutcome (circuit q) source observed (outcomes_of outcomes)) (clauses_flat r after)

-- a terminal list
pub record TerminalFlat (q : Asked) (bad : ℕ) (states : List ℕ) (b : Buffers) (r : NitMade) (after : Buffers) : Type 0 where
  pub makes : MakesFlat (terminal_list q bad states (lent_of b)) b r after
  pub means : r.reason ≡ 0 → TerminalMeans (circuit q) q.relevant (predicate q) bad states (clauses_flat r after)
