-- For the contracts of the functions that append the clauses of claims: states and outcomes as the code has them.
use Rattle.std.specs.Prelude.{ℕ, ◌+◌, ◌-◌, ◌*◌, ◌/◌, Bool, true, false, List, length, take, drop}
use Rattle.obligation_claims.specs.declared.Claims.{Claims}
use Rattle.obligation_claims.specs.declared.Claims.TheVariants.{States, Outcomes}
use Rattle.obligation_claims.specs.Inner.Claims.{state_claims, outcome_claims}

-- their words, and whether there are three for each
abbrev pub words_in : Claims → List ℕ
words_in (States words) = words.now
words_in (Outcomes words) = words.now

abbrev pub wide_in : Claims → Bool
wide_in (States words) = false
wide_in (Outcomes words) = true

-- how many claims there are
abbrev pub count_in : Claims → ℕ
count_in (States words) = length words.now
count_in (Outcomes words) = length words.now / 3

-- the words of one
abbrev pub claim_at : Claims → ℕ → List ℕ
claim_at (States words) i = take (i + 1 - i) (drop i words.now)
claim_at (Outcomes words) i = take (3 * i + 3 - 3 * i) (drop (3 * i) words.now)

-- the lists of their literals
abbrev pub lists_of : List ℕ → Claims → List (List ℕ)
lists_of keys (States words) = state_claims keys words.now
lists_of keys (Outcomes words) = outcome_claims keys words.now
