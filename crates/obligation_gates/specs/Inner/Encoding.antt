-- For the contracts of the functions that append the clauses of source latches, predicate and gates (R7.2).
use Rattle.std.specs.Prelude.{ℕ, ◌/◌, ◌≤◌, ◌<◌, ◌^◌, true, List, [], ◌∷◌, map, ◌≡◌, length}
use Rattle.lists.specs.Sets.{member}
use Rattle.lists.specs.Tests.{Each}
use Rattle.lists.specs.Words.{lengths}
use Rattle.aiger.specs.declared.Gate.{Gate}
use Rattle.cnf.specs.Clauses.{clauses_in}
use Rattle.cnf.specs.Inner.Appending.{Filled}
use Rattle.cnf.specs.Simplified.{opposite}
use Rattle.obligation_spec.specs.Lists.{predicate_literal}
use Rattle.obligation_check.specs.declared.Predicate.{Predicate}
use Rattle.obligation_check.specs.Inner.Boundary.{predicate_holds}

-- literals that are so small that their words have 32 bits, as all literals of a model are
abbrev pub Low : List ℕ → Type 0
Low ls = Each (λ l. l < 2 ^ 31) ls

pub record LowGate (g : Gate) : Type 0 where
  pub output : g.output < 2 ^ 31
  pub left : g.left < 2 ^ 31
  pub right : g.right < 2 ^ 31

-- R7.3: a gate's clauses as three arrays of three literals, filled up with the false constant
abbrev pub gate_arrays : Gate → List (List ℕ)
gate_arrays g =
    (opposite g.output ∷ g.left ∷ 0 ∷ [])
    ∷ (opposite g.output ∷ g.right ∷ 0 ∷ [])
    ∷ (g.output ∷ opposite g.left ∷ opposite g.right ∷ [])
    ∷ []

-- the words of a clause index relevant inputs, 64 at most, and these are inputs of a model, none of which is a constant
pub record Clausal (inputs relevant clause : List ℕ) : Type 0 where
  pub low : Low inputs
  pub variables : Each (λ l. 2 ≤ l) inputs
  pub among : Each (λ i. i < length inputs) relevant
  pub most : length relevant ≤ 64
  pub indexed : Each (λ w. w / 2 < length relevant) clause

-- the list was filled with the n words that were kept of a clause: no word of it is missing, and none is new, but its repeats may be left out
pub record FilledAs (inputs relevant clause list : List ℕ) (n : ℕ) : Type 0 where
  pub kept : List ℕ
  pub same : (w : ℕ) → member w kept ≡ member w clause
  pub clausal : Clausal inputs relevant kept
  pub filled : Filled (map (predicate_literal inputs relevant) kept) list n
  pub few : n ≤ length clause

-- a predicate that passed the check of the boundary, for these inputs, none of which is a constant
pub record BoundedBy (inputs relevant pairs words : List ℕ) : Type 0 where
  pub low : Low inputs
  pub variables : Each (λ l. 2 ≤ l) inputs
  pub among : Each (λ i. i < length inputs) relevant
  pub most : length relevant ≤ 64
  pub few : lengths pairs ≤ 1024
  pub holds : predicate_holds (length relevant) 0 words pairs ≡ true

abbrev pub Bounded : List ℕ → Predicate → Type 0
Bounded inputs p = BoundedBy inputs p.relevant.now p.pairs.now p.literals.now

-- the lists of literals of its clauses
abbrev pub predicate_lists : List ℕ → Predicate → List (List ℕ)
predicate_lists inputs p = map (map (predicate_literal inputs p.relevant.now)) (clauses_in p.literals.now p.pairs.now)
