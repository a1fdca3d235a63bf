-- For the contracts of the composer's inner functions: sections whose gates stand in order and whose literals are in range, as 11 asks.
use Rattle.std.specs.Prelude.{ℕ, suc, ◌+◌, ◌*◌, ◌≤◌, ◌<◌, List, [], ◌∷◌, ◌≡◌}
use Rattle.lists.specs.Tests.{Each}
use Rattle.aiger.specs.declared.Gate.{Gate}
use Rattle.aiger.specs.Gates.{variable}
use Rattle.witness_read.specs.Sections.{NamedLatch, Sections, leaves, variables}

-- the gate of variable n, whose operands have smaller variables
pub record GateAt (n : ℕ) (g : Gate) : Type 0 where
  pub output : g.output ≡ 2 * n
  pub left : variable g.left < n
  pub right : variable g.right < n

-- the gates of the variables n, n + 1, ..
abbrev pub GatesFrom : ℕ → List Gate → Type 0
GatesFrom n [] = Unit {0}
GatesFrom n (g ∷ gs) = GateAt n g × GatesFrom (suc n) gs

-- a literal of a variable up to m
abbrev pub Within : ℕ → ℕ → Type 0
Within m l = l ≤ 2 * m + 1

-- the two literals of a latch
abbrev pub LatchWithin : ℕ → NamedLatch → Type 0
LatchWithin m q = Within m q.next × Within m q.reset

-- what 11 asks of sections
pub record InRange (s : Sections) : Type 0 where
  pub gates : GatesFrom (suc (leaves s)) s.gates
  pub latches : Each (LatchWithin (variables s)) s.latches
  pub outputs : Each (Within (variables s)) s.outputs
  pub bads : Each (Within (variables s)) s.bads
  pub constraints : Each (Within (variables s)) s.constraints
