-- Clauses and what satisfies them (R11.6), and clauses in words (R12.1, R12.2).
use Rattle.std.specs.Prelude.{ℕ, zero, suc, ◌+◌, ◌*◌, ◌/◌, Bool, true, false, not, cond, List, [], ◌∷◌, ◌≡◌, length, get_or, take, drop}
use Rattle.lists.specs.Bits.{odd}
use Rattle.lists.specs.Tests.{all, any}
use Rattle.lists.specs.Words.{pairs_of, words_of}
use Rattle.aiger.specs.Gates.{Valuation}

-- R12.1: a clause is its literals, in words: the CNF variable doubled, and 1 more for a positive literal
abbrev pub Clause : Type 0
Clause = List ℕ

-- R11.6: an assignment is the list of the values of CNF variables 0, 1, ..
abbrev pub Assignment : Type 0
Assignment = List Bool

-- R11.6: the value of a variable; one past the end counts as false
abbrev pub value_at : Assignment → ℕ → Bool
value_at a n = get_or a n false

-- R12.1: the literal is true: the variable's value for an odd word, the other one for an even word
unfoldable pub literal_true : Assignment → ℕ → Bool
literal_true a w = cond (odd w) (value_at a (w / 2)) (not (value_at a (w / 2)))

-- R11.6: an assignment satisfies clauses: there is a true literal in each, so never with the empty clause
unfoldable pub satisfies : Assignment → List Clause → Bool
satisfies a cs = all (any (literal_true a)) cs

-- R11.6: no assignment of n variables satisfies the clauses
abbrev pub Unsatisfiable : ℕ → List Clause → Type 0
Unsatisfiable n cs = (a : Assignment) → length a ≡ n → satisfies a cs ≡ true → ⊥

-- R7.1: the values that an assignment gives the AIGER variables: n + 1 has that of CNF variable n, and 0 is false
abbrev pub valuation_of : Assignment → Valuation
valuation_of a zero = false
valuation_of a (suc n) = value_at a n

-- R12.2: the literal words of clauses, one clause after the other
abbrev pub literals_of : List Clause → List ℕ
literals_of cs = words_of (λ c. c) cs

-- R12.2: the pairs of clauses whose words begin at a place, with no gaps between them
abbrev pub pairs_from : ℕ → List Clause → List ℕ
pairs_from at [] = []
pairs_from at (c ∷ cs) = at ∷ length c ∷ pairs_from (at + length c) cs

-- R12.2: the clauses that pairs cut from words
abbrev pub clauses_in : List ℕ → List ℕ → List Clause
clauses_in words pairs = pairs_of (λ offset size. take size (drop offset words)) pairs

-- R12.2: the clauses returned: those of the first so many pairs of a buffer
abbrev pub returned : ℕ → List ℕ → List ℕ → List Clause
returned count pairs words = clauses_in words (take (2 * count) pairs)
