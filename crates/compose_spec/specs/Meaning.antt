-- Demand 3 for compositions (R11.7 to R11.10): the witnesses' bads, constraints, next and reset are kept, for all inputs and latches.
use Rattle.std.specs.Prelude.{ℕ, suc, ◌+◌, ◌≤◌, ◌<◌, Bool, true, false, List, [], ◌∷◌, map, ◌≡◌, eqb, length, get_or}
use Rattle.std.proofs.Math.Option.{none}
use Rattle.lists.specs.Answer.{got}
use Rattle.lists.specs.Parts.{Bytes}
use Rattle.lists.specs.Tests.{all, any, Each}
use Rattle.text.specs.Texts.{limited, free}
use Rattle.aiger.specs.Gates.{Valuation, value, Follows}
use Rattle.witness_read.specs.Sections.{NamedLatch, Sections, leaves, variables}
use Rattle.witness_read.specs.Reading.{read_aag}
use Rattle.compose_spec.specs.Numbering.{Entry, same_entry, input_entries, latch_entries, input_firsts, latch_firsts, numbered, Placed, placed}
use Rattle.compose_spec.specs.Composing.{maps_right, safety, compose}
use Rattle.compose_spec.specs.Printing.{printed}
use Rattle.compose_spec.specs.Calling.{read_all}

-- ---- values

-- two valuations give each input and latch the same value: they are the variables 1 to I + L
abbrev pub SameLeaves : Sections → Valuation → Valuation → Type 0
SameLeaves s u v = (k : ℕ) → k < leaves s → u (suc k) ≡ v (suc k)

-- values of all variables that follow the gate equations, with the inputs and latches at their values under a
pub record Solution (s : Sections) (a : Valuation) : Type 0 where
  pub values : Valuation
  pub follows : Follows s.gates values
  pub same : SameLeaves s values a

-- a witness with a value for each of its variables
pub record Valued : Type 0 where
  pub placed : Placed
  pub values : Valuation

-- the values that the composition's values u give the variables of a witness by R8.4
abbrev pub given : Valuation → Placed → Valuation
given u p x = u (get_or p.vars x 0)

-- R11.8: the witness's inputs and latches have the values of their composed variables, and its gates those of its own equations
pub record Takes (u : Valuation) (x : Valued) : Type 0 where
  pub follows : Follows x.placed.sections.gates x.values
  pub same : SameLeaves x.placed.sections x.values (given u x.placed)

-- ---- what is kept

-- R11.9: some safety literal of the witness is true
abbrev pub unsafe : Valued → Bool
unsafe x = any (value x.values) (safety x.placed.sections)

-- every constraint of the witness holds
abbrev pub constrained : Valued → Bool
constrained x = all (value x.values) x.placed.sections.constraints

-- (stands where a list has no such latch; `there` below says that it has)
abbrev pub no_latch : NamedLatch
no_latch = record { next = 0; reset = 0; name = none }

-- R11.10, next and reset have the same values in the witness and in the composition:
-- q is the witness's latch of its variable y, whose composed variable is that of composed latch number k
pub record LatchKept (s : Sections) (u : Valuation) (x : Valued) (y : ℕ) (q : NamedLatch) : Type 0 where
  pub k : ℕ
  pub there : k < length s.latches
  pub is : get_or x.placed.vars y 0 ≡ suc (length s.inputs + k)
  pub next : value u (get_or s.latches k no_latch).next ≡ value x.values q.next
  pub reset : value u (get_or s.latches k no_latch).reset ≡ value x.values q.reset

-- the latches of a witness; the first has its variable y
abbrev pub LatchesKept : Sections → Valuation → Valued → ℕ → List NamedLatch → Type 0
LatchesKept s u x y [] = Unit {0}
LatchesKept s u x y (q ∷ qs) = LatchKept s u x y q × LatchesKept s u x (suc y) qs

abbrev pub AllLatchesKept : Sections → Valuation → Valued → Type 0
AllLatchesKept s u x = LatchesKept s u x (suc (length x.placed.sections.inputs)) x.placed.sections.latches

-- what holds of the composition s with the values u and of the witnesses with theirs
pub record Keeps (s : Sections) (u : Valuation) (xs : List Valued) : Type 0 where
  -- some bad literal of the composition is true exactly when some safety literal of some witness is
  pub bads : any (value u) s.bads ≡ any unsafe xs
  -- all constraints of the composition hold exactly when every constraint of every witness does
  pub constraints : all (value u) s.constraints ≡ all constrained xs
  -- each latch of each witness keeps its next and reset value
  pub latches : Each (AllLatchesKept s u) xs

-- ---- how the variables are numbered

-- the composed variable of each input of a witness is one of a composed input: of the variables 1 to I
abbrev pub InputsPlaced : Sections → Placed → Type 0
InputsPlaced s p = (k : ℕ) → k < length p.sections.inputs → (1 ≤ get_or p.vars (suc k) 0) × (get_or p.vars (suc k) 0 ≤ length s.inputs)

-- the composed variables of two appearances are the same exactly when R8 shares them
abbrev pub Apart : ℕ → List Entry → List Entry → Type 0
Apart n firsts es = Each (λ e. Each (λ f. eqb (numbered n firsts e) (numbered n firsts f) ≡ same_entry e f) es) es

-- each composed variable, `count` many from n on, is that of some appearance: no composed input or latch is without one of a witness
abbrev pub Owned : ℕ → List Entry → List Entry → ℕ → Type 0
Owned n firsts es count = (k : ℕ) → k < count → any (λ e. eqb (numbered n firsts e) (n + k)) es ≡ true

-- values of a section's variables that follow the gate equations are fixed by those of its inputs and latches
abbrev pub Fixed : Sections → Type 0
Fixed s = (u v : Valuation) → Follows s.gates u → Follows s.gates v → SameLeaves s u v → (x : ℕ) → x ≤ variables s → u x ≡ v x

-- ---- demand 3

-- what the composition s of the witnesses ws for the model m means
pub record Means (m : Sections) (ws : List Sections) (s : Sections) : Type 0 where
  -- every witness is among those placed, in its place
  pub everyone : map (λ p. p.sections) (placed m ws) ≡ ws
  pub inputs : Each (InputsPlaced s) (placed m ws)
  pub inputs_apart : Apart 1 (input_firsts m ws) (input_entries m 0 ws)
  pub latches_apart : Apart (suc (length (input_firsts m ws))) (latch_firsts m ws) (latch_entries m 0 ws)
  pub inputs_owned : Owned 1 (input_firsts m ws) (input_entries m 0 ws) (length s.inputs)
  pub latches_owned : Owned (suc (length (input_firsts m ws))) (latch_firsts m ws) (latch_entries m 0 ws) (length s.latches)
  -- R11.1: for all values of inputs and latches the composition has values, and only these
  pub exist : (a : Valuation) → Solution s a
  pub unique : Fixed s
  -- so has each witness, with its inputs and latches at the values of their composed variables
  pub solved : (u : Valuation) → Each (λ p. Solution p.sections (given u p)) (placed m ws)
  pub solved_once : Each (λ p. Fixed p.sections) (placed m ws)
  pub keeps : (u : Valuation) → Follows s.gates u → (xs : List Valued) → map (λ x. x.placed) xs ≡ placed m ws → Each (Takes u) xs → Keeps s u xs

-- Demand 3, of the texts of the model and the witnesses and of the text returned.
pub record Composition (model : Bytes) (ts : List Bytes) (text : Bytes) : Type 0 where
  pub m : Sections
  pub ws : List Sections
  pub s : Sections
  pub model_read : read_aag limited false model ≡ got m
  pub witnesses_read : read_all ts ≡ got ws
  -- R11.7: the text in the buffer is read without limits, as a model or as a witness
  pub text_read : (witness : Bool) → read_aag free witness text ≡ got s
  -- 16 does not apply: no input or latch of a witness has a wrong literal
  pub mapped : all (maps_right m) ws ≡ true
  -- the composition by R8, as it is printed: its names, and nothing besides
  pub composes : compose m ws ≡ got s
  pub text_is : text ≡ printed s
  pub means : Means m ws s
