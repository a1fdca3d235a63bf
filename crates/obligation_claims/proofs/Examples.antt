-- Worked examples of the definitions, which compute.
use Prim.Native.Nat.{ℕ}
use mathlib.Core.List.{[], ◌∷◌, ◌++◌}
use mathlib.Core.Path.{◌≡◌, refl}
use lib.ListN.{get_or, replicate}
use Rattle.lists.specs.Sets.{holds}
use Rattle.obligation_claims.specs.Inner.Claims.{keys_from, claim_list, state_claims, outcome_claims, outcome_keys}

-- literals 2 and 4 at the bits 0 and 1
two_latches : keys_from 0 (2 ∷ 4 ∷ []) ≡ 512 ∷ 1025 ∷ []
two_latches = refl

-- state 1: not the first latch, or the second
state_one : claim_list (512 ∷ 1025 ∷ []) (1 ∷ []) ≡ 3 ∷ 4 ∷ []
unfolding holds
state_one = refl

-- each claim has its clause
two_states : state_claims (512 ∷ []) (0 ∷ 1 ∷ []) ≡ (2 ∷ []) ∷ (3 ∷ []) ∷ []
unfolding holds
two_states = refl

-- the first observed outputs have the bits of the low word, which is the third ..
low-keys : outcome_keys (2 ∷ []) (4 ∷ 6 ∷ []) ≡ 512 ∷ 1152 ∷ 1665 ∷ []
low-keys = refl

low_bit : claim_list (1152 ∷ []) (0 ∷ 0 ∷ 1 ∷ []) ≡ 5 ∷ []
unfolding holds
low_bit = refl

not_high : claim_list (1152 ∷ []) (0 ∷ 1 ∷ 0 ∷ []) ≡ 4 ∷ []
unfolding holds
not_high = refl

-- .. and the 65th has the first bit of the high word, the second
high_key : ◌≡◌ {A = ℕ} (get_or (outcome_keys [] (replicate 64 4 ++ 6 ∷ [])) 64 0) 1600
high_key = refl

high_bit : claim_list (1600 ∷ []) (0 ∷ 1 ∷ 0 ∷ []) ≡ 7 ∷ []
unfolding holds
high_bit = refl

not_low : claim_list (1600 ∷ []) (0 ∷ 0 ∷ 1 ∷ []) ≡ 6 ∷ []
unfolding holds
not_low = refl

-- three words a claim: target, high, low
two_outcomes : outcome_claims (512 ∷ 1152 ∷ []) (1 ∷ 0 ∷ 1 ∷ 0 ∷ 1 ∷ 0 ∷ []) ≡ (3 ∷ 5 ∷ []) ∷ (2 ∷ 4 ∷ []) ∷ []
unfolding holds
two_outcomes = refl
