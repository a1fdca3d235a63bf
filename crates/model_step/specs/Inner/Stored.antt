-- For the contracts of inner functions: the values of a step as work words, one word a variable.
use Rattle.std.specs.Prelude.{ℕ, ◌≤◌, ◌<◌, ◌≡◌, List, map, length, get_or, take, drop}
use Rattle.lists.specs.Bits.{odd, packed}
use Rattle.lists.specs.Tests.{Each}
use Rattle.aiger.specs.declared.Gate.{Gate}
use Rattle.aiger.specs.Gates.{variable, Valuation, value}
use Rattle.model_step.specs.declared.Outcome.{Outcome}

-- what the words hold: a variable is true where its word is odd, and false past their end
abbrev pub held : List ℕ → Valuation
held w k = odd (get_or w k 0)

-- the words hold the values v, as far as they reach
pub record Stored (w : List ℕ) (v : Valuation) : Type 0 where
  pub says : (k : ℕ) → k < length w → held w k ≡ v k

-- words w became words u: whatever values v the former hold, the latter hold those that f makes of them
pub record Becomes (w u : List ℕ) (f : Valuation → Valuation) : Type 0 where
  pub so : (v : Valuation) → Stored w v → Stored u (f v)

-- each literal's variable has one of n words
abbrev pub Inside : ℕ → List ℕ → Type 0
Inside n ls = Each (λ l. variable l < n) ls

-- so have the variables of a gate
pub record InsideGate (n : ℕ) (g : Gate) : Type 0 where
  pub output : variable g.output < n
  pub left : variable g.left < n
  pub right : variable g.right < n

-- the values of the next literals and of the output literals can be read from n words
pub record Readable (n : ℕ) (nexts outputs : List ℕ) : Type 0 where
  pub few : length nexts ≤ 64
  pub inside : Inside n nexts
  pub few_outputs : length outputs ≤ 128
  pub inside_outputs : Inside n outputs

-- the state of the next literals and the outputs of the output literals
abbrev pub readings : Valuation → List ℕ → List ℕ → Outcome
readings v nexts outputs =
    record {
      target = packed (map (value v) nexts);
      high = packed (drop 64 (map (value v) outputs));
      low = packed (take 64 (map (value v) outputs));
    }
