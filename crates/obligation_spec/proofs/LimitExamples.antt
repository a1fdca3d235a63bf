-- Worked examples of the limits, each with its neighbour, and of an outcome's three words.
use Prim.Native.Nat.{ℕ, zero, suc, ◌+◌, ◌*◌, ◌^◌, ◌≤◌, ◌<◌}
use mathlib.Core.Bool.{true, false}
use mathlib.Core.List.{List, [], ◌∷◌}
use mathlib.Core.Path.{◌≡◌, refl}
use native.Mathlib.Omega.{arith}
use borrow.Author.Tests.{lt-ltb, le-leb, lt-leb}
use lib.Dec.{leb, ltb}
use lib.ListN.{length, get_or, replicate}
use Rattle.lists.specs.Parts.{zeros}
use Rattle.lists.specs.Sets.{rising}
use Rattle.lists.specs.Tests.{all, every}
use Rattle.lists.proofs.TestLaws.{every_holds, every_fails}
use Rattle.model.specs.Circuit.{Circuit}
use Rattle.model_step.specs.declared.Outcome.{Outcome}
use Rattle.obligation_spec.specs.Lists.{output_bits, outcomes_of, outcome_list}
use Rattle.obligation_spec.specs.Limits.{bounded, is_state, before, rising_outcomes, outcomes_claimed}
use Rattle.obligation_spec.proofs.AnchorLaws.{counting_from}

abbrev pub outcome : ℕ → ℕ → ℕ → Outcome
outcome target high low = record { target = target; high = high; low = low }

-- ---- the three words of an outcome, and its order (R12.8)

pub three_words : outcomes_of (5 ∷ 6 ∷ 7 ∷ 8 ∷ 9 ∷ 10 ∷ 11 ∷ []) ≡ outcome 5 6 7 ∷ outcome 8 9 10 ∷ []
three_words = refl

pub compared :
    (before (outcome 0 9 9) (outcome 1 0 0) ≡ true)
    × (before (outcome 1 0 0) (outcome 0 9 9) ≡ false)
    × (before (outcome 1 0 9) (outcome 1 1 0) ≡ true)
    × (before (outcome 1 1 0) (outcome 1 0 9) ≡ false)
    × (before (outcome 1 1 0) (outcome 1 1 1) ≡ true)
    × (before (outcome 1 1 1) (outcome 1 1 1) ≡ false)
compared = (refl, refl, refl, refl, refl, refl)

pub compared_lists :
    (rising_outcomes (outcome 0 0 1 ∷ outcome 0 1 0 ∷ outcome 1 0 0 ∷ []) ≡ true)
    × (rising_outcomes (outcome 0 0 1 ∷ outcome 0 1 0 ∷ outcome 0 0 2 ∷ []) ≡ false)
    × (rising_outcomes (outcome 0 0 1 ∷ outcome 0 0 1 ∷ []) ≡ false)
compared_lists = (refl, refl, refl)

-- bits 0 and 63 are of the low half, bits 64 and 127 of the high half
pub halves :
    (get_or (output_bits (outcome 0 0 1)) 0 false ≡ true)
    × (get_or (output_bits (outcome 0 0 1)) 64 true ≡ false)
    × (get_or (output_bits (outcome 0 0 9223372036854775808)) 63 false ≡ true)
    × (get_or (output_bits (outcome 0 1 0)) 0 true ≡ false)
    × (get_or (output_bits (outcome 0 1 0)) 64 false ≡ true)
    × (get_or (output_bits (outcome 0 9223372036854775808 0)) 127 false ≡ true)
halves = (refl, refl, refl, refl, refl, refl)

-- ---- outcomes of many outputs: one latch that keeps its value, and n outputs that are that latch

abbrev pub wide : ℕ → Circuit
wide n = record { variables = 1; inputs = []; latches = record { current = 2; next = 2 } ∷ []; outputs = replicate n 2; gates = [] }

-- bit 64 is beyond 64 observed outputs, and is that of the 65th; bit 63 is that of the 64th
pub bit_64 :
    (outcomes_claimed (wide 65) (counting_from 0 64) (outcome 0 1 0 ∷ []) ≡ false)
    × (outcomes_claimed (wide 65) (counting_from 0 65) (outcome 0 1 0 ∷ []) ≡ true)
    × (outcomes_claimed (wide 65) (counting_from 0 65) (outcome 0 2 0 ∷ []) ≡ false)
    × (outcomes_claimed (wide 65) (counting_from 1 63) (outcome 0 0 9223372036854775808 ∷ []) ≡ false)
    × (outcomes_claimed (wide 65) (counting_from 1 64) (outcome 0 0 9223372036854775808 ∷ []) ≡ true)
    × (outcomes_claimed (wide 128) (counting_from 0 128) (outcome 1 18446744073709551615 18446744073709551615 ∷ []) ≡ true)
unfolding outcomes_claimed every
bit_64 = (refl, refl, refl, refl, refl, refl)

-- the 65th output's literal stands in the claim's list, behind that of the latch: 3 where its bit is 1, 2 where it is 0
pub literal_65 :
    (get_or (outcome_list (wide 65) (counting_from 0 65) (outcome 0 1 0)) 65 0 ≡ 3)
    × (get_or (outcome_list (wide 65) (counting_from 0 65) (outcome 0 0 1)) 65 0 ≡ 2)
    × (get_or (outcome_list (wide 65) (counting_from 0 65) (outcome 0 0 1)) 1 0 ≡ 3)
    × (length (outcome_list (wide 65) (counting_from 0 65) (outcome 0 1 0)) ≡ 66)
literal_65 = (refl, refl, refl, refl)

-- ---- the limits of R9.13

-- 65 inputs, which no checked model has, so that only the limit on relevant inputs is broken
abbrev pub inputs : ℕ → Circuit
inputs n = record { variables = 1; inputs = zeros n; latches = []; outputs = []; gates = [] }

pub relevant_64 : (bounded (inputs 65) (counting_from 0 64) [] [] ≡ true) × (bounded (inputs 65) (counting_from 0 65) [] [] ≡ false)
unfolding bounded every
relevant_64 = (refl, refl)

-- empty clauses: 64 pairs, 64 and a half, 65
pub clauses_64 : (bounded (inputs 1) [] (zeros 128) [] ≡ true) × (bounded (inputs 1) [] (zeros 129) [] ≡ true) × (bounded (inputs 1) [] (zeros 130) [] ≡ false)
unfolding bounded every
clauses_64 = (refl, refl, refl)

-- 1,024 literals in one clause, and in two; 1,025 in two. The words of gaps do not count
pub literals_1024 :
    (bounded (inputs 1) (0 ∷ []) (0 ∷ 1024 ∷ []) (zeros 1024) ≡ true)
    × (bounded (inputs 1) (0 ∷ []) (0 ∷ 24 ∷ 25 ∷ 1000 ∷ []) (zeros 1025) ≡ true)
    × (bounded (inputs 1) (0 ∷ []) (0 ∷ 25 ∷ 25 ∷ 1000 ∷ []) (zeros 1025) ≡ false)
unfolding bounded every
literals_1024 = (refl, refl, refl)

-- ---- the limit on claimed outcomes (R12.9)

-- n outcomes of target 0 with the low halves a, a + 1, ..
unfoldable pub outcomes_from : ℕ → ℕ → List Outcome
outcomes_from a zero = []
outcomes_from a (suc n) = outcome 0 0 a ∷ outcomes_from (a + 1) n

from-length : (n a : ℕ) → length (outcomes_from a n) ≡ n
unfolding outcomes_from
from-length zero a = refl
from-length (suc n) a = rw (from-length n (a + 1))

from-rises : (n a : ℕ) → rising_outcomes (outcomes_from a n) ≡ true
unfolding outcomes_from
from-rises zero a = refl
from-rises (suc zero) a = refl
from-rises (suc (suc n)) a = rw (lt-ltb a (a + 1) (omega arith), from-rises (suc n) (a + 1))

from_states : (k n a : ℕ) → all (λ o. is_state (wide k) o.target) (outcomes_from a n) ≡ true
unfolding outcomes_from
from_states k zero a = refl
from_states k (suc n) a = from_states k n (a + 1)

from-fits : (k n a : ℕ) → a + n ≤ 2 ^ k → all (λ o. ltb (o.low + 2 ^ 64 * o.high) (2 ^ k)) (outcomes_from a n) ≡ true
unfolding outcomes_from
from-fits k zero a h = refl
from-fits k (suc n) a h = rw (lt-ltb (a + 2 ^ 64 * 0) (2 ^ k) (omega arith), from-fits k n (a + 1) (omega arith))

-- 65,536 outcomes of 17 outputs are taken ..
pub outcomes_65536 : outcomes_claimed (wide 17) (counting_from 0 17) (outcomes_from 0 65536) ≡ true
unfolding outcomes_claimed
outcomes_65536 =
    let many : List Outcome = outcomes_from 0 65536 in
    every_holds
    (rising (counting_from 0 17)
    ∷ all (λ i. ltb i 17) (counting_from 0 17)
    ∷ leb (length many) 65536
    ∷ rising_outcomes many
    ∷ all (λ o. is_state (wide 17) o.target) many
    ∷ all (λ o. ltb (o.low + 2 ^ 64 * o.high) (2 ^ 17)) many
    ∷ [])
    (refl, (refl, (le-leb (length many) 65536 (omega (arith, from-length 65536 0)), (from-rises 65536 0, (from_states 17 65536 0, (from-fits 17 65536 0 (omega arith), tt))))))

-- .. and no more, whatever they are
pub too_many : (c : Circuit) (observed : List ℕ) (outcomes : List Outcome) → 65536 < length outcomes → outcomes_claimed c observed outcomes ≡ false
unfolding outcomes_claimed
too_many c observed outcomes h =
    every_fails
    (rising observed
    ∷ all (λ i. ltb i (length c.outputs)) observed
    ∷ leb (length outcomes) 65536
    ∷ rising_outcomes outcomes
    ∷ all (λ o. is_state c o.target) outcomes
    ∷ all (λ o. ltb (o.low + 2 ^ 64 * o.high) (2 ^ length observed)) outcomes
    ∷ [])
    2 (lt-leb (length outcomes) 65536 h)

pub outcomes_65537 : outcomes_claimed (wide 17) (counting_from 0 17) (outcomes_from 0 65537) ≡ false
outcomes_65537 = too_many (wide 17) (counting_from 0 17) (outcomes_from 0 65537) (omega (arith, from-length 65537 0))
