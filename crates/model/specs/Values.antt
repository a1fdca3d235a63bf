-- The values that the gate equations of a model fix, from a state and an input word (R11.1, R11.4).
use Rattle.std.specs.Prelude.{ℕ, map, ◌≡◌, length}
use Rattle.lists.specs.Bits.{bits}
use Rattle.aiger.specs.Gates.{Valuation, value, Follows}
use Rattle.model.specs.Circuit.{Circuit, currents_of}

-- R11.4: v has the latches at the bits of s (the lowest L), the inputs at those of x (the lowest I), and follows the gate equations
pub record Settles (c : Circuit) (s x : ℕ) (v : Valuation) : Type 0 where
  pub latches : map (value v) (currents_of c) ≡ bits (length c.latches) s
  pub inputs : map (value v) c.inputs ≡ bits (length c.inputs) x
  pub follows : Follows c.gates v
