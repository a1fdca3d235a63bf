-- For the contracts of the functions that append clauses in two lent buffers.
use Rattle.std.specs.Prelude.{ℕ, ◌+◌, ◌*◌, ◌≤◌, ◌<◌, ◌^◌, Bool, false, true, ◌⊎◌, List, [], ◌∷◌, ◌++◌, map, ◌≡◌, length, take, Option, Some, None}
use Rattle.lists.specs.Parts.{front, put}
use Rattle.lists.specs.Sets.{member, set_of}
use Rattle.lists.specs.Tests.{Each}
use Rattle.lists.specs.Words.{words_of}
use Rattle.cnf.specs.declared.ClauseCounts.{ClauseCounts}
use Rattle.cnf.specs.declared.Clauses.{Clauses}
use Rattle.cnf.specs.Clauses.{Clause, literals_of, pairs_from}
use Rattle.cnf.specs.Simplified.{cnf_word, without_false, both_signs, simplified}

-- the buffers have room for the clauses
pub record Room (cs : List Clause) (pairs words : List ℕ) : Type 0 where
  pub pairs_fit : 2 * length cs ≤ length pairs
  pub words_fit : length (literals_of cs) ≤ length words

-- the clauses stand in front of what was in the buffers
pub record Stored (cs : List Clause) (pairs₀ words₀ pairs words : List ℕ) : Type 0 where
  pub pairs_are : pairs ≡ front pairs₀ (pairs_from 0 cs)
  pub words_are : words ≡ front words₀ (literals_of cs)

-- the clauses so far are counted, and they stand in the buffers where there is room for all of them
pub record Holding (pairs₀ words₀ : List ℕ) (cs : List Clause) (at : ClauseCounts) (pairs words : List ℕ) : Type 0 where
  pub clauses : at.clauses ≡ length cs
  pub literals : at.literals ≡ length (literals_of cs)
  pub same_pairs : length pairs ≡ length pairs₀
  pub same_words : length words ≡ length words₀
  pub stored : Room cs pairs₀ words₀ → Stored cs pairs₀ words₀ pairs words

-- it is still the same two buffers that are lent
pub record SameBuffers (p p' : Clauses) : Type 0 where
  pub pairs_name : p'.pairs.ghost_name ≡ p.pairs.ghost_name
  pub literals_name : p'.literals.ghost_name ≡ p.literals.ghost_name
  pub pairs_room : length p'.pairs.now ≡ length p.pairs.now
  pub literals_room : length p'.literals.now ≡ length p.literals.now

-- the clauses of these lists of literals were appended, whatever stood there before
pub record Appends (lists : List (List ℕ)) (p p' : Clauses) : Type 0 where
  pub same : SameBuffers p p'
  pub holds : (pairs₀ words₀ : List ℕ) (cs : List Clause)
      → Holding pairs₀ words₀ cs p.counts p.pairs.now p.literals.now
      → Holding pairs₀ words₀ (cs ++ words_of simplified lists) p'.counts p'.pairs.now p'.literals.now
  pub clauses : p'.counts.clauses ≤ p.counts.clauses + length lists
  pub literals : p'.counts.literals ≤ p.counts.literals + 1024 * length lists

-- so many clauses more can be counted
pub record Space (at : ClauseCounts) (n : ℕ) : Type 0 where
  pub clauses : at.clauses + n ≤ 2 ^ 40
  pub literals : at.literals + 1024 * n ≤ 2 ^ 60

-- the words of these literals have 32 bits
abbrev pub Narrow : List ℕ → Type 0
Narrow ls = Each (λ l. l < 2 ^ 32) ls

-- the list was filled with the words of these literals, none of which is the true constant: n words
pub record Filled (ls list : List ℕ) (n : ℕ) : Type 0 where
  pub untrue : member 1 ls ≡ false
  pub count : n ≡ length (without_false ls)
  pub words : take n list ≡ map cnf_word (without_false ls)

-- the words of a kept clause are the first k of the list, rising and each once; no variable has both signs
pub record KeptAs (words : List ℕ) (k : ℕ) (list : List ℕ) : Type 0 where
  pub signs : both_signs words ≡ false
  pub count : k ≤ length words
  pub clause : take k list ≡ set_of words

-- What became of a clause of these words: it is dropped for a variable in both signs, or kept. (A word's other sign is the `opposite` word, as with literals.)
pub record Simplifies (words : List ℕ) (r : Option ℕ) (list : List ℕ) : Type 0 where
  pub when_dropped : r ≡ None → both_signs words ≡ true
  pub when_kept : (k : ℕ) → r ≡ Some k → KeptAs words k list

-- the clause was appended, whatever literals it is the clause of
abbrev pub Pushes : Clause → Clauses → Clauses → Type 0
Pushes c p p' = (ls : List ℕ) → simplified ls ≡ c ∷ [] → Appends (ls ∷ []) p p'

-- the clause of the literals that these words are of was appended, whatever they are
abbrev pub PushesFilled : List ℕ → Clauses → Clauses → Type 0
PushesFilled list p p' = (ls : List ℕ) → Filled ls list (length list) → Appends (ls ∷ []) p p'

-- the words have 32 bits
abbrev pub NarrowWords : List ℕ → Type 0
NarrowWords ws = Each (λ w. w < 2 ^ 32) ws

-- there is no room for a clause of n words more
abbrev pub Full : Clauses → ℕ → Type 0
Full p n = (length p.pairs.now < 2 * p.counts.clauses + 2) ⊎ (length p.literals.now < p.counts.literals + n)

-- the pair of a clause of n words was written, where there is room for it and for its words; nothing else
pub record Opens (n : ℕ) (p : Clauses) (r : Bool) (p' : Clauses) : Type 0 where
  pub same : SameBuffers p p'
  pub literals : p'.literals.now ≡ p.literals.now
  pub counts : p'.counts ≡ p.counts
  pub when_open : r ≡ true → (2 * p.counts.clauses + 2 ≤ length p.pairs.now) × (p.counts.literals + n ≤ length p.literals.now)
      × (p'.pairs.now ≡ put p.pairs.now (2 * p.counts.clauses) (p.counts.literals ∷ n ∷ []))
  pub when_full : r ≡ false → Full p n × (p'.pairs.now ≡ p.pairs.now)
