-- For the contracts of the functions that make the clauses once the arguments are accepted.
use Rattle.std.specs.Prelude.{ℕ, ◌+◌, ◌*◌, ◌/◌, ◌≤◌, ◌<◌, ◌^◌, Bool, true, cond, List, Result, [], ◌∷◌, ◌++◌, map, ◌≡◌, length, take}
use Rattle.lists.specs.Answer.{Answer, got, and_then}
use Rattle.lists.specs.Bits.{bits}
use Rattle.lists.specs.Tests.{Each}
use Rattle.lists.specs.Words.{triples_of, words_of}
use Rattle.aiger.specs.declared.Refusal.{Refusal}
use Rattle.aiger.specs.Gates.{gate_from}
use Rattle.aiger.specs.Refusals.{answered}
use Rattle.model.specs.Checked.{counts_of}
use Rattle.model.specs.Limits.{counted, well_defined}
use Rattle.cnf.specs.declared.ClauseCounts.{ClauseCounts}
use Rattle.cnf.specs.declared.Clauses.{Clauses}
use Rattle.cnf.specs.Clauses.{Clause, clauses_in}
use Rattle.cnf.specs.Simplified.{simplified}
use Rattle.cnf.specs.Inner.Appending.{Holding, SameBuffers}
use Rattle.obligation_spec.specs.Lists.{source_lists, predicate_literal, gate_lists}
use Rattle.obligation_spec.specs.Limits.{bounded}
use Rattle.obligation_spec.specs.Calls.{Asked, circuit, Lent, within}
use Rattle.obligation_gates.specs.Inner.Encoding.{Low, LowGate, BoundedBy}
use Rattle.obligation_claims.specs.Inner.Claims.{FewKeys, state_claims, outcome_claims}
use Rattle.obligation.specs.Promise.{sizes, pairs_after, literals_after}

-- what the clauses are made of: latches at a source's bits (none for a terminal list), inputs with a predicate, gates, and the claims
pub record Parts : Type 0 where
  pub currents : List ℕ
  pub source : ℕ
  pub inputs : List ℕ
  pub relevant : List ℕ
  pub pairs : List ℕ
  pub words : List ℕ
  pub gates : List ℕ
  pub ands : ℕ

abbrev pub parts_of : List ℕ → ℕ → List ℕ → List ℕ → List ℕ → List ℕ → List ℕ → ℕ → Parts
parts_of currents source inputs relevant pairs words gates ands =
    record { currents = currents; source = source; inputs = inputs; relevant = relevant; pairs = pairs; words = words; gates = gates; ands = ands }

-- the claims: their keys, and their words, three for each where they are wide
pub record Claimed : Type 0 where
  pub keys : List ℕ
  pub words : List ℕ
  pub wide : Bool

abbrev pub claimed_of : List ℕ → List ℕ → Bool → Claimed
claimed_of keys words wide = record { keys = keys; words = words; wide = wide }

-- the lists of the claims' literals
abbrev pub claim_lists : Claimed → List (List ℕ)
claim_lists c = cond c.wide (outcome_claims c.keys c.words) (state_claims c.keys c.words)

-- how many claims so many words are
abbrev pub claim_count : ℕ → Bool → ℕ
claim_count words wide = cond wide (words / 3) words

-- the lists of literals in their order
abbrev pub front_lists : Parts → List (List ℕ)
front_lists p =
    source_lists p.currents (bits (length p.currents) p.source)
    ++ (map (map (predicate_literal p.inputs p.relevant)) (clauses_in p.words p.pairs)
    ++ words_of gate_lists (take p.ands (triples_of gate_from p.gates)))

-- .. with the claims, and a last clause of one literal: the true constant, whose clause is dropped, for none
abbrev pub all_lists : Parts → Claimed → ℕ → List (List ℕ)
all_lists p c last = front_lists p ++ (claim_lists c ++ (last ∷ []) ∷ [])

-- what holds of the parts of an accepted call
pub record FrontReady (p : Parts) : Type 0 where
  pub low : Low p.currents
  pub few : length p.currents ≤ 8
  pub bounded : BoundedBy p.inputs p.relevant p.pairs p.words
  pub clauses : length p.pairs / 2 ≤ 64
  pub most : p.ands ≤ 1000000
  pub low_gates : Each LowGate (take p.ands (triples_of gate_from p.gates))

-- .. and of its claims
pub record ClaimsReady (c : Claimed) : Type 0 where
  pub few_keys : FewKeys 136 c.keys
  pub few_words : length c.words ≤ 1000000

pub record Ready (p : Parts) (c : Claimed) (last : ℕ) : Type 0 where
  pub front : FrontReady p
  pub claims : ClaimsReady c
  pub low_last : last < 2 ^ 32

-- room for every obligation of so many latches, predicate clauses, gates, keys and claims: so many words for pairs, so many for literals
pub record Roomy (currents clauses ands keys claims pairs literals : ℕ) : Type 0 where
  pub pairs_suffice : currents + clauses + 3 * ands + claims + 1 ≤ pairs / 2
  pub literals_suffice : currents + 7 * ands + keys * claims + 1025 ≤ literals

-- the room that the buffers have
abbrev pub room_of : List ℕ → List ℕ → Lent
room_of pairs literals = record { work = 0; pairs = length pairs; literals = length literals }

-- ---- once the model and the boundary are accepted

pub record Asks (q : Asked) : Type 0 where
  pub counts : counted (counts_of q.model) ≡ true
  pub inputs : q.model.input_count ≤ length q.model.inputs
  pub outputs : q.model.output_count ≤ length q.model.outputs
  pub words : 3 * q.model.and_count ≤ length q.gates
  pub well : well_defined (circuit q) ≡ true
  pub bounds : bounded (circuit q) q.relevant q.pairs q.words ≡ true

-- the test of the claims holds
abbrev pub ClaimsOf : Bool → Type 0
ClaimsOf b = b ≡ true

-- the answer and the two result buffers after it
pub record Continues (answer : Answer (List Clause)) (pairs literals : List ℕ) (r : Result ClauseCounts Refusal) (pairs' literals' : List ℕ) : Type 0 where
  pub answers : answered r ≡ and_then answer (λ cs. got (sizes cs))
  pub pairs_are : pairs' ≡ pairs_after answer pairs
  pub literals_are : literals' ≡ literals_after answer literals

-- the same for clauses, where R9.20 is all that is left
abbrev pub Made : List Clause → List ℕ → List ℕ → Result ClauseCounts Refusal → List ℕ → List ℕ → Type 0
Made cs pairs literals r pairs' literals' = Continues (within (room_of pairs literals) cs) pairs literals r pairs' literals'

-- .. in the lent buffers, however many were appended there before
pub record MakesAll (cs : List Clause) (p : Clauses) (r : Result ClauseCounts Refusal) (p' : Clauses) : Type 0 where
  pub same : SameBuffers p p'
  pub made : Made cs p.pairs.now p.literals.now r p'.pairs.now p'.literals.now

-- the clauses of these lists were appended from the buffers' start on
pub record AppendsAll (lists : List (List ℕ)) (p p' : Clauses) : Type 0 where
  pub same : SameBuffers p p'
  pub holding : Holding p.pairs.now p.literals.now (words_of simplified lists) p'.counts p'.pairs.now p'.literals.now
