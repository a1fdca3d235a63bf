-- Literals, their values, and the gate equations (AIGER 1.9; R0.6, R11.1).
use Rattle.std.specs.Prelude.{ℕ, ◌/◌, Bool, false, not, ◌&&◌, cond, List, [], ◌∷◌, ◌≡◌}
use Rattle.lists.specs.Bits.{odd}
use Rattle.lists.specs.Tests.{Each}
use Rattle.aiger.specs.declared.Gate.{Gate}

-- R0.6: the variable of a literal
abbrev pub variable : ℕ → ℕ
variable l = l / 2

-- a value for each variable
abbrev pub Valuation : Type 0
Valuation = ℕ → Bool

-- R0.6: the value of a literal: its variable's, or the other one when it is negated
unfoldable pub value : Valuation → ℕ → Bool
value v l = cond (odd l) (not (v (variable l))) (v (variable l))

-- R12.4: a gate from its three words: the output, then its two operands
abbrev pub gate_from : ℕ → ℕ → ℕ → Gate
gate_from output left right = record { output = output; left = left; right = right }

-- R12.4: the three words of a gate
abbrev pub gate_words : Gate → List ℕ
gate_words g = g.output ∷ g.left ∷ g.right ∷ []

-- the output literal of a gate
abbrev pub output_of : Gate → ℕ
output_of g = g.output

-- R11.1: the equation of a gate: output = left and right
abbrev pub Conjunction : Valuation → Gate → Type 0
Conjunction v g = value v g.output ≡ (value v g.left && value v g.right)

-- R11.1: the values follow the equation of every gate of a list, whatever the order; variable 0, of the constants (R0.6), is false
pub record Follows (gates : List Gate) (v : Valuation) : Type 0 where
  pub constant : v 0 ≡ false
  pub conjunctions : Each (Conjunction v) gates
