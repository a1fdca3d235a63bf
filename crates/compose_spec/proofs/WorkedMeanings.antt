-- Worked examples of demand 3 (R11) for compositions: sections that do not compose the two witnesses of R14.7, which the meaning refuses.
use Prim.Native.Nat.{ℕ, ◌≤◌}
use native.Mathlib.Omega.{arith}
use mathlib.Core.Bool.{Bool, true, false}
use mathlib.Core.List.{List, [], ◌∷◌}
use mathlib.Core.Option.{none}
use mathlib.Core.Path.{◌≡◌, refl, sym, ◌∙◌}
use Rattle.lists.specs.Tests.{any, all}
use Rattle.aiger.specs.Gates.{Valuation, value}
use Rattle.witness_read.specs.Sections.{Sections}
use Rattle.compose_spec.specs.Numbering.{Placed}
use Rattle.compose_spec.specs.Meaning.{Solution, Valued, unsafe, Keeps, InputsPlaced, Means}
use Rattle.compose_spec.proofs.WorkedMappings.{circuit, latch, to2}

-- the model, and the witnesses with the outputs 2 and 3
abbrev one : List ℕ → Sections
one outputs = circuit [] (latch 2 0 none ∷ []) outputs [] [] []

abbrev both : List Sections
both = one (2 ∷ []) ∷ one (3 ∷ []) ∷ []

-- a witness with its one latch at variable 1 of the composition
abbrev seat : ℕ → Placed
seat l = record { sections = one (l ∷ []); vars = 0 ∷ 1 ∷ [] }

-- a composition with one latch
abbrev made : ℕ → ℕ → List ℕ → List ℕ → Sections
made next reset bads constraints = circuit [] (latch next reset to2 ∷ []) [] bads constraints []

module _ (next reset : ℕ) (bads constraints : List ℕ) (means : Means (one []) both (made next reset bads constraints)) (a : Bool) where
  -- values of the composition with its latch at a, and those that the witnesses take
  solution : Solution (made next reset bads constraints) (λ k. a)
  solution = means.exist (λ k. a)

  abbrev u : Valuation
  u = solution.values

  abbrev v : Valuation
  v = (means.solved u).0.values

  abbrev w : Valuation
  w = (means.solved u).1.0.values

  u_is : u 1 ≡ a
  u_is = solution.same 0 (omega arith)

  v_is : v 1 ≡ a
  v_is = (means.solved u).0.same 0 (omega arith) ∙ u_is

  w-is : w 1 ≡ a
  w-is = (means.solved u).1.0.same 0 (omega arith) ∙ u_is

  abbrev valued : List Valued
  valued = record { placed = seat 2; values = v } ∷ record { placed = seat 3; values = w } ∷ []

  kept : Keeps (made next reset bads constraints) u valued
  kept =
      means.keeps u solution.follows valued refl (
        record { follows = (means.solved u).0.follows; same = (means.solved u).0.same },
        (record { follows = (means.solved u).1.0.follows; same = (means.solved u).1.0.same }, tt),
      )

  -- the composed latch of witness 0's is the only one
  at_zero : kept.latches.0.0.k ≡ 0
  at_zero = let h = kept.latches.0.0.there in omega arith

  next-kept : value u next ≡ value v 2
  next-kept = rw at_zero at kept.latches.0.0.next

  reset-kept : value u reset ≡ value v 0
  reset-kept = rw at_zero at kept.latches.0.0.reset

-- no value is both
no : {X : Type 0} → ◌≡◌ {A = Bool} false true → X
no e = absurd (let z : ◌≡◌ {A = ℕ} 0 1 = cc in omega arith)

-- the bads of witness 0 alone: where the latch is 0, witness 1 is unsafe and the composition is not
pub first-only : {X : Type 0} → Means (one []) both (made 2 0 (2 ∷ []) []) → X
unfolding value
first-only means =
    let k = kept 2 0 (2 ∷ []) [] means false in
    let l : any (value (u 2 0 (2 ∷ []) [] means false)) (2 ∷ []) ≡ false = rw (u_is 2 0 (2 ∷ []) [] means false) refl in
    let r : any unsafe (valued 2 0 (2 ∷ []) [] means false) ≡ true = rw (v_is 2 0 (2 ∷ []) [] means false) (rw (w-is 2 0 (2 ∷ []) [] means false) refl) in
    no (sym l ∙ k.bads ∙ r)

-- a constraint that no witness has: false is never met
pub one_more_constraint : {X : Type 0} → Means (one []) both (made 2 0 (2 ∷ 3 ∷ []) (0 ∷ [])) → X
unfolding value
one_more_constraint means =
    let k = kept 2 0 (2 ∷ 3 ∷ []) (0 ∷ []) means false in
    let l : all (value (u 2 0 (2 ∷ 3 ∷ []) (0 ∷ []) means false)) (0 ∷ []) ≡ false = rw (solution 2 0 (2 ∷ 3 ∷ []) (0 ∷ []) means false).follows.constant refl in
    no (sym l ∙ k.constraints)

-- another next literal: where the latch is 1, it would become 0
pub other-next : {X : Type 0} → Means (one []) both (made 3 0 (2 ∷ 3 ∷ []) []) → X
unfolding value
other-next means =
    let l : value (u 3 0 (2 ∷ 3 ∷ []) [] means true) 3 ≡ false = rw (u_is 3 0 (2 ∷ 3 ∷ []) [] means true) refl in
    let r : value (v 3 0 (2 ∷ 3 ∷ []) [] means true) 2 ≡ true = rw (v_is 3 0 (2 ∷ 3 ∷ []) [] means true) refl in
    no (sym l ∙ next-kept 3 0 (2 ∷ 3 ∷ []) [] means true ∙ r)

-- another reset literal
pub other-reset : {X : Type 0} → Means (one []) both (made 2 1 (2 ∷ 3 ∷ []) []) → X
unfolding value
other-reset means =
    let s = solution 2 1 (2 ∷ 3 ∷ []) [] means false in
    let l : value s.values 1 ≡ true = rw s.follows.constant refl in
    let r : value (v 2 1 (2 ∷ 3 ∷ []) [] means false) 0 ≡ false = rw (means.solved s.values).0.follows.constant refl in
    no (sym r ∙ sym (reset-kept 2 1 (2 ∷ 3 ∷ []) [] means false) ∙ l)

-- the latch left out
pub no_latch_lem : {X : Type 0} → Means (one []) both (circuit [] [] [] (2 ∷ 3 ∷ []) [] []) → X
no_latch_lem means =
    let s = means.exist (λ k. false) in
    let t = means.solved s.values in
    let k =
    means.keeps s.values s.follows (record { placed = seat 2; values = t.0.values } ∷ record { placed = seat 3; values = t.1.0.values } ∷ []) refl
    (record { follows = t.0.follows; same = t.0.same }, (record { follows = t.1.0.follows; same = t.1.0.same }, tt)) in
    let h = k.latches.0.0.there in
    absurd (omega arith)

-- one latch more, which no witness has
pub further_latch : {X : Type 0} → Means (one []) both (circuit [] (latch 2 0 to2 ∷ latch 0 0 none ∷ []) [] (2 ∷ 3 ∷ []) [] []) → X
further_latch means = no (means.latches_owned 1 (omega arith))

-- a witness whose one input has the composed variable x, in a composition of one input and one latch
abbrev InputAt : ℕ → Type 0
InputAt x =
    InputsPlaced (circuit (none ∷ []) (latch 0 0 none ∷ []) [] [] [] [])
    (record { sections = circuit (none ∷ []) [] [] [] [] []; vars = 0 ∷ x ∷ [] })

-- it is not the constant, and not the latch
pub not-constant : {X : Type 0} → InputAt 0 → X
not-constant p = let h : 1 ≤ 0 = (p 0 (omega arith)).0 in absurd (omega arith)

pub not_latch : {X : Type 0} → InputAt 2 → X
not_latch p = let h : 2 ≤ 1 = (p 0 (omega arith)).1 in absurd (omega arith)
