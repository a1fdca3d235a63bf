-- For the contracts of the functions that append the clauses of claims (R7.4). A claim is one or three words; a key says which literal
-- differs from which of its bits.
use Rattle.std.specs.Prelude.{ℕ, ◌+◌, ◌*◌, ◌/◌, ◌%◌, ◌≤◌, ◌<◌, ◌^◌, not, List, [], ◌∷◌, ◌++◌, map, length, take, drop}
use Rattle.lists.specs.Sets.{holds}
use Rattle.lists.specs.Tests.{Each}
use Rattle.lists.specs.Words.{triples_of}
use Rattle.obligation_spec.specs.Lists.{valued}

-- a key is 256 × literal + place of its bit in the claim's words, 64 places a word
abbrev pub keys_from : ℕ → List ℕ → List ℕ
keys_from place [] = []
keys_from place (l ∷ ls) = (256 * l + place) ∷ keys_from (place + 1) ls

-- the literals of a claim's clause: each differs from its bit
abbrev pub claim_list : List ℕ → List ℕ → List ℕ
claim_list keys claim = map (λ key. valued (key / 256) (not (holds claim (key % 256)))) keys

-- claims of one word each, a state; and of three words each, an outcome
abbrev pub state_claims : List ℕ → List ℕ → List (List ℕ)
state_claims keys states = map (λ s. claim_list keys (s ∷ [])) states

abbrev pub outcome_claims : List ℕ → List ℕ → List (List ℕ)
outcome_claims keys words = triples_of (λ t h l. claim_list keys (t ∷ h ∷ l ∷ [])) words

-- the keys of the observed outputs in an outcome (target, high, low): the first 64 at the bits of low, the others at those of high
abbrev pub observed_keys : List ℕ → List ℕ
observed_keys observed = keys_from 128 (take 64 observed) ++ keys_from 64 (drop 64 observed)

-- the keys of an outcome: next literals at the target's bits, then the observed outputs
abbrev pub outcome_keys : List ℕ → List ℕ → List ℕ
outcome_keys nexts observed = keys_from 0 nexts ++ observed_keys observed

-- keys of literals whose words have 32 bits, and such literals
abbrev pub LowKeys : List ℕ → Type 0
LowKeys keys = Each (λ key. key < 2 ^ 39) keys

abbrev pub LowLiterals : List ℕ → Type 0
LowLiterals ls = Each (λ l. l < 2 ^ 31) ls

-- .. at most so many
pub record FewKeys (most : ℕ) (keys : List ℕ) : Type 0 where
  pub few : length keys ≤ most
  pub low : LowKeys keys

pub record FewLiterals (most : ℕ) (ls : List ℕ) : Type 0 where
  pub few : length ls ≤ most
  pub low : LowLiterals ls
