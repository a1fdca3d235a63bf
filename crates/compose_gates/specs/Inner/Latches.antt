-- For the contracts of the composer's inner functions: definitions of latches in lent words.
use Rattle.std.specs.Prelude.{ℕ, zero, suc, ◌+◌, ◌-◌, ◌*◌, ◌/◌, ◌≤◌, ◌<◌, max, Bool, true, false, cond, ◌&&◌, List, [], ◌∷◌, ◌≡◌, eqb, length, get_or, Option, Some, None}
use Rattle.std.proofs.Math.Option.{none}
use Rattle.lists.specs.Parts.{part, put}
use Rattle.lists.specs.Words.{pairs_of}
use Rattle.witness_read.specs.Sections.{NamedLatch}
use Rattle.compose_spec.specs.Composing.{Defined, defined_from, definition_of, agree}
use Rattle.compose_gates.specs.Inner.Linked.{Translatable}

-- ---- numbers in the order of first appearance

-- Each number was met, or is the next one: those met are `first`, `first` + 1, .., `seen` of them.
abbrev pub InTurn : ℕ → ℕ → List ℕ → Type 0
InTurn first seen [] = Unit {0}
InTurn first seen (v ∷ vs) = (first ≤ v) × (v ≤ first + seen) × InTurn first (max seen (v - first + 1)) vs

-- how many were met in the end
abbrev pub met_in : ℕ → ℕ → List ℕ → ℕ
met_in first seen [] = seen
met_in first seen (v ∷ vs) = met_in first (max seen (v - first + 1)) vs

-- ---- one latch

-- two words at a place are x and y
abbrev pub same_pair : ℕ → ℕ → ℕ → List ℕ → Bool
same_pair at x y work = eqb (get_or work at 0) x && eqb (get_or work (at + 1) 0) y

-- a latch with a definition is compared with it, and one that has none gets it
abbrev pub DefinesLatch : (place next reset : ℕ) (definitions definitions' : List ℕ) (known r : Bool) → Type 0
DefinesLatch place next reset definitions definitions' true r = (r ≡ same_pair place next reset definitions) × (definitions' ≡ definitions)
DefinesLatch place next reset definitions definitions' false r = (r ≡ true) × (definitions' ≡ put definitions place (next ∷ reset ∷ []))

-- ---- all latches

-- a latch by its two words; names stand elsewhere
abbrev pub latch_from : ℕ → ℕ → NamedLatch
latch_from next reset = record { next = next; reset = reset; name = none }

-- The latches by their words, next literal and reset of each; their own composed variables stand among all from the place `own` on.
abbrev pub defined_in : (latches vars : List ℕ) (own : ℕ) → List Defined
defined_in latches vars own = defined_from vars own (pairs_of latch_from latches)

-- next literal and reset of each of n composed latches, from the composed variable x on
abbrev pub definitions_from : ℕ → ℕ → List Defined → List ℕ
definitions_from x zero ds = []
definitions_from x (suc n) ds = (definition_of x ds).next ∷ (definition_of x ds).reset ∷ definitions_from (suc x) n ds

-- the composed variables of the latches
abbrev pub latch_variables : (latches vars : List ℕ) (own : ℕ) → List ℕ
latch_variables latches vars own = part vars own (own + length latches / 2)

-- the words of the latches can be translated, their variables come in turn, and there is room for their definitions
pub record Definable (latches vars : List ℕ) (own : ℕ) (definitions : List ℕ) (first : ℕ) : Type 0 where
  pub among : own + length latches / 2 ≤ length vars
  pub room : 2 * (length latches / 2) ≤ length definitions
  pub known : (j : ℕ) → j < length latches / 2 → Translatable vars (get_or latches (2 * j) 0) × Translatable vars (get_or latches (2 * j + 1) 0)
  pub turns : InTurn first 0 (latch_variables latches vars own)

-- how many latches are composed, or 18
abbrev pub defined_answer : ℕ → List Defined → Option ℕ
defined_answer n ds = cond (agree ds) (Some n) None

-- The promise: the answer, and the definitions where 18 does not apply.
pub record Defines (latches vars : List ℕ) (own first : ℕ) (definitions definitions' : List ℕ) (r : Option ℕ) : Type 0 where
  pub returns : r ≡ defined_answer (met_in first 0 (latch_variables latches vars own)) (defined_in latches vars own)
  pub stored : agree (defined_in latches vars own) ≡ true
      → definitions' ≡ put definitions 0 (definitions_from first (met_in first 0 (latch_variables latches vars own)) (defined_in latches vars own))
