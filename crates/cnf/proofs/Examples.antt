-- Worked examples of the definitions, which compute.
use mathlib.Core.Bool.{true, false}
use mathlib.Core.List.{[], ◌∷◌}
use mathlib.Core.Path.{◌≡◌, refl}
use Rattle.cnf.specs.Clauses.{literal_true, satisfies, valuation_of, literals_of, pairs_from, returned}
use Rattle.cnf.specs.Simplified.{opposite, cnf_word, dropped, simplified}
use Rattle.cnf.proofs.VariableLaws.{assignment_of}

-- AIGER variable 1 is CNF variable 0; an even AIGER literal is positive, and its word is odd
positive_first : cnf_word 2 ≡ 1
unfolding cnf_word
positive_first = refl

negative_first : cnf_word 3 ≡ 0
unfolding cnf_word
negative_first = refl

positive_second : cnf_word 4 ≡ 3
unfolding cnf_word
positive_second = refl

negative_third : cnf_word 7 ≡ 4
unfolding cnf_word
negative_third = refl

opposite_even : opposite 6 ≡ 7
opposite_even = refl

opposite-odd : opposite 7 ≡ 6
opposite-odd = refl

-- variable 1 is true: its positive literal 3 is true, its negative literal 2 is not
positive_true : literal_true (false ∷ true ∷ []) 3 ≡ true
unfolding literal_true
positive_true = refl

negative_false : literal_true (false ∷ true ∷ []) 2 ≡ false
unfolding literal_true
negative_false = refl

negative_true : literal_true (false ∷ true ∷ []) 0 ≡ true
unfolding literal_true
negative_true = refl

-- a variable past the end counts as false
past_the_end : literal_true [] 1 ≡ false
unfolding literal_true
past_the_end = refl

-- R3.1: the true constant, and a variable with its negation, drop a clause
true_drops : simplified (6 ∷ 1 ∷ []) ≡ []
unfolding simplified dropped
true_drops = refl

both-signs-drop : simplified (6 ∷ 9 ∷ 7 ∷ []) ≡ []
unfolding simplified dropped
both-signs-drop = refl

-- 7 and 8 are of different variables
neighbours_stay : simplified (8 ∷ 7 ∷ []) ≡ (4 ∷ 7 ∷ []) ∷ []
unfolding simplified dropped cnf_word
neighbours_stay = refl

-- R3.2, R3.3: the false constant goes, and words rise, each once. (A false constant, if kept, would get the word 1.)
false-goes : simplified (6 ∷ 0 ∷ 4 ∷ 0 ∷ []) ≡ (3 ∷ 5 ∷ []) ∷ []
unfolding simplified dropped cnf_word
false-goes = refl

repeats_go : simplified (9 ∷ 4 ∷ 9 ∷ 4 ∷ []) ≡ (3 ∷ 6 ∷ []) ∷ []
unfolding simplified dropped cnf_word
repeats_go = refl

by-variable : simplified (10 ∷ 3 ∷ 7 ∷ 4 ∷ []) ≡ (0 ∷ 3 ∷ 4 ∷ 9 ∷ []) ∷ []
unfolding simplified dropped cnf_word
by-variable = refl

-- R3.4: nothing is left, or nothing was there
only-false : simplified (0 ∷ 0 ∷ []) ≡ [] ∷ []
unfolding simplified dropped
only-false = refl

nothing : simplified [] ≡ [] ∷ []
unfolding simplified dropped
nothing = refl

-- no clause is satisfied by all, the empty clause by none
no_clause : satisfies (true ∷ []) [] ≡ true
unfolding satisfies
no_clause = refl

empty-clause : satisfies (true ∷ []) ([] ∷ []) ≡ false
unfolding satisfies
empty-clause = refl

each-clause : satisfies (true ∷ false ∷ []) ((1 ∷ []) ∷ (0 ∷ 2 ∷ []) ∷ []) ≡ true
unfolding satisfies literal_true
each-clause = refl

one_fails : satisfies (true ∷ false ∷ []) ((1 ∷ []) ∷ (0 ∷ 3 ∷ []) ∷ []) ≡ false
unfolding satisfies literal_true
one_fails = refl

-- variable 0 is false, and CNF variable 0 is AIGER variable 1
values-first : valuation_of (true ∷ []) 0 ≡ false
values-first = refl

values-next : valuation_of (true ∷ []) 1 ≡ true
values-next = refl

values-back : assignment_of 2 (valuation_of (true ∷ false ∷ true ∷ [])) ≡ true ∷ false ∷ []
values-back = refl

-- offset and length, with no gaps; an empty clause has the next one's offset
pairs_of_lem : pairs_from 0 ((3 ∷ 4 ∷ []) ∷ [] ∷ (5 ∷ []) ∷ []) ≡ 0 ∷ 2 ∷ 2 ∷ 0 ∷ 2 ∷ 1 ∷ []
pairs_of_lem = refl

words_of : literals_of ((3 ∷ 4 ∷ []) ∷ [] ∷ (5 ∷ []) ∷ []) ≡ 3 ∷ 4 ∷ 5 ∷ []
words_of = refl

-- what stands behind the result is not read
read_back : returned 3 (0 ∷ 2 ∷ 2 ∷ 0 ∷ 2 ∷ 1 ∷ 8 ∷ 8 ∷ []) (3 ∷ 4 ∷ 5 ∷ 9 ∷ []) ≡ (3 ∷ 4 ∷ []) ∷ [] ∷ (5 ∷ []) ∷ []
read_back = refl

-- nor is half a pair at the end
half_a_pair : returned 2 (0 ∷ 2 ∷ 2 ∷ []) (3 ∷ 4 ∷ 5 ∷ []) ≡ (3 ∷ 4 ∷ []) ∷ []
half_a_pair = refl
