-- Laws for the functions that check claimed outcomes (R9.14).
use Prim.Native.Nat.{ℕ, ◌+◌, ◌-◌, ◌*◌, ◌/◌, ◌≤◌, ◌<◌, ◌^◌}
use mathlib.Core.Bool.{Bool, true, false, ◌&&◌, and-false, and-true}
use mathlib.Core.List.{List, [], ◌∷◌}
use mathlib.Core.Path.{◌≡◌, refl, sym, ap, ◌∙◌}
use native.Mathlib.Omega.{arith}
use borrow.Author.Tests.{le-leb, lt-leb, ltb-true, lt-ltb, le-ltb}
use lib.Dec.{leb, ltb}
use lib.ListN.{length, get_or, drop}
use Rattle.model_step.specs.declared.Outcome.{Outcome}
use Rattle.lists.specs.Sets.{rising}
use Rattle.lists.specs.Tests.{all, every}
use Rattle.lists.proofs.RisingLaws.{rises-stop, rises-more, rises-end, rising-distinct}
use Rattle.lists.proofs.CountLaws.{distinct-count}
use Rattle.lists.proofs.TestLaws.{all-stop, all_more, all_end, all-and, each_of_all, each-so, every_fails}
use Rattle.lists.proofs.WordLaws.{triples_count, triples_at}
use Rattle.obligation_spec.specs.Lists.{outcomes_of}
use Rattle.obligation_spec.specs.Limits.{before, rising_outcomes, outcomes_claimed}
use Rattle.obligation_check.specs.Inner.Boundary.{no_outcome, outcome_fits, ClaimsOutcomes}

-- a high half of 0
pub low_fits : (high low n : ℕ) (r : Bool) → r ≡ ltb low (2 ^ n) → high ≡ 0 → r ≡ ltb (low + 2 ^ 64 * high) (2 ^ n)
low_fits high low n r e z = let k : low + 2 ^ 64 * high ≡ low = omega arith in rw k e

abbrev make : ℕ → ℕ → ℕ → Outcome
make t h l = record { target = t; high = h; low = l }

module _ (words : List ℕ) where
  pub outcomes_count : length (outcomes_of words) ≡ length words / 3
  outcomes_count = triples_count make words

  pub outcome-is : (i : ℕ) → i < length words / 3 → make (get_or words (3 * i) 0) (get_or words (3 * i + 1) 0) (get_or words (3 * i + 2) 0) ≡ get_or (outcomes_of words) i no_outcome
  outcome-is i h = sym (triples_at make words i 0 no_outcome (omega arith))

  -- the loop over neighbours
  module _ (i : ℕ) (r : Bool) (k : r ≡ rising_outcomes (drop (i - 1) (outcomes_of words))) (some : 0 < i) where
    pub outcomes_fall : i < length words / 3 → (a b : Outcome) → a ≡ get_or (outcomes_of words) (i - 1) no_outcome → b ≡ get_or (outcomes_of words) i no_outcome
        → (q : Bool) → q ≡ before a b → q ≡ false → false ≡ r
    outcomes_fall h a b x y q e f = rises-stop before (outcomes_of words) i r k some no_outcome (rw outcomes_count h) (rw (← x, ← y) (sym e ∙ f))

    pub outcomes_more : i < length words / 3 → (a b : Outcome) → a ≡ get_or (outcomes_of words) (i - 1) no_outcome → b ≡ get_or (outcomes_of words) i no_outcome
        → (q : Bool) → q ≡ before a b → q ≡ true → r ≡ rising_outcomes (drop (i + 1 - 1) (outcomes_of words))
    outcomes_more h a b x y q e f = rises-more before (outcomes_of words) i r k some no_outcome (rw outcomes_count h) (rw (← x, ← y) (sym e ∙ f))

    pub outcomes_end : length words / 3 ≤ i → true ≡ r
    outcomes_end h = rises-end before (outcomes_of words) i r k some (rw outcomes_count h)

  -- the loop over each
  module _ (latches n i : ℕ) (r : Bool) (k : r ≡ all (outcome_fits latches n) (drop i (outcomes_of words))) where
    module _ (h : i < length words / 3) (o : Outcome) (x : o ≡ get_or (outcomes_of words) i no_outcome) where
      pub target-stop : (top : ℕ) → top ≡ 2 ^ latches → top ≤ o.target → false ≡ r
      target-stop top p t =
          all-stop (outcome_fits latches n) (outcomes_of words) i r k no_outcome (rw outcomes_count h)
          (rw (← x, le-ltb o.target (2 ^ latches) (rw (← p) t)) refl)

      pub bits-stop : (q : Bool) → q ≡ ltb (o.low + 2 ^ 64 * o.high) (2 ^ n) → q ≡ false → false ≡ r
      bits-stop q e f =
          all-stop (outcome_fits latches n) (outcomes_of words) i r k no_outcome (rw outcomes_count h)
          (rw (← x, ← e, f) (and-false (ltb o.target (2 ^ latches))))

      pub fit_more : (top : ℕ) → top ≡ 2 ^ latches → o.target < top → (q : Bool) → q ≡ ltb (o.low + 2 ^ 64 * o.high) (2 ^ n) → q ≡ true → r ≡ all (outcome_fits latches n) (drop (i + 1) (outcomes_of words))
      fit_more top p t q e f =
          all_more (outcome_fits latches n) (outcomes_of words) i r k no_outcome (rw outcomes_count h)
          (rw (← x, ← e, f, lt-ltb o.target (2 ^ latches) (rw (← p) t)) refl)

    pub fit_end : length words / 3 ≤ i → true ≡ r
    fit_end h = all_end (outcome_fits latches n) (outcomes_of words) i r k (rw outcomes_count h)

-- ---- the whole list of tests

module _ (latches outputs : ℕ) (observed words : List ℕ) where
  abbrev tests : List Bool
  tests =
      rising observed
      ∷ all (λ i. ltb i outputs) observed
      ∷ leb (length (outcomes_of words)) 65536
      ∷ rising_outcomes (outcomes_of words)
      ∷ all (λ o. ltb o.target (2 ^ latches)) (outcomes_of words)
      ∷ all (λ o. ltb (o.low + 2 ^ 64 * o.high) (2 ^ length observed)) (outcomes_of words)
      ∷ []

  claims-are : (b : Bool) → b ≡ every tests → ClaimsOutcomes latches outputs observed words b
  unfolding outcomes_claimed
  claims-are b e c n m =
      e ∙ ap (λ (k : ℕ). every (rising observed ∷ all (λ i. ltb i k) observed ∷ leb (length (outcomes_of words)) 65536 ∷ rising_outcomes (outcomes_of words) ∷ all (λ o. ltb o.target (2 ^ latches)) (outcomes_of words) ∷ all (λ o. ltb (o.low + 2 ^ 64 * o.high) (2 ^ length observed)) (outcomes_of words) ∷ [])) (sym m)
      ∙ ap (λ (k : ℕ). every (rising observed ∷ all (λ i. ltb i (length c.outputs)) observed ∷ leb (length (outcomes_of words)) 65536 ∷ rising_outcomes (outcomes_of words) ∷ all (λ o. ltb o.target (2 ^ k)) (outcomes_of words) ∷ all (λ o. ltb (o.low + 2 ^ 64 * o.high) (2 ^ length observed)) (outcomes_of words) ∷ [])) (sym n)

  claims_fail : (i : ℕ) → get_or tests i true ≡ false → ClaimsOutcomes latches outputs observed words false
  claims_fail i e = claims-are false (sym (every_fails tests i e))

  pub not-rising : (q : Bool) → q ≡ rising observed → q ≡ false → ClaimsOutcomes latches outputs observed words false
  not-rising q e f = claims_fail 0 (sym e ∙ f)

  pub not-outputs : (q : Bool) → q ≡ all (λ i. ltb i outputs) observed → q ≡ false → ClaimsOutcomes latches outputs observed words false
  not-outputs q e f = claims_fail 1 (sym e ∙ f)

  pub too_many_outcomes : 65536 < length words / 3 → ClaimsOutcomes latches outputs observed words false
  too_many_outcomes h = claims_fail 2 (lt-leb (length (outcomes_of words)) 65536 (rw (outcomes_count words) h))

  pub outcomes_not-rising : (q : Bool) → q ≡ rising_outcomes (outcomes_of words) → q ≡ false → ClaimsOutcomes latches outputs observed words false
  outcomes_not-rising q e f = claims_fail 3 (sym e ∙ f)

  -- observed outputs that rise and are below the number of outputs are no more than these
  pub few-observed : (q : Bool) → q ≡ rising observed → q ≡ true → (p : Bool) → p ≡ all (λ i. ltb i outputs) observed → p ≡ true → length observed ≤ outputs
  few-observed q e f p d g =
      distinct-count outputs observed (rising-distinct observed (sym e ∙ f))
      (each-so (λ i. ltb i outputs ≡ true) (λ i. i < outputs) (λ i t. ltb-true i outputs t) observed (each_of_all (λ i. ltb i outputs) observed (sym d ∙ g)))

  -- the last two tests, of each outcome in turn, decide where the others hold
  pub outcomes_hold : (q : Bool) → q ≡ rising observed → q ≡ true → (p : Bool) → p ≡ all (λ i. ltb i outputs) observed → p ≡ true
      → length words / 3 ≤ 65536 → (t : Bool) → t ≡ rising_outcomes (outcomes_of words) → t ≡ true
      → (b : Bool) → b ≡ all (outcome_fits latches (length observed)) (outcomes_of words) → ClaimsOutcomes latches outputs observed words b
  unfolding every
  outcomes_hold q qe qt p pe pt h t te tt b e =
      claims-are b
      (e ∙ all-and (λ o. ltb o.target (2 ^ latches)) (λ o. ltb (o.low + 2 ^ 64 * o.high) (2 ^ length observed)) (outcomes_of words)
      ∙ rw (← qe, qt, ← pe, pt, le-leb (length (outcomes_of words)) 65536 (rw (outcomes_count words) h), ← te, tt)
      (ap (λ (y : Bool). all (λ o. ltb o.target (2 ^ latches)) (outcomes_of words) && y)
      (sym (and-true (all (λ o. ltb (o.low + 2 ^ 64 * o.high) (2 ^ length observed)) (outcomes_of words))))))
