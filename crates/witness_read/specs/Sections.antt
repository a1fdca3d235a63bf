-- The sections of a text that R4 accepts. Inputs, latches and gates are numbered one after the other (R4.5): counted from 0, number k
-- of them all defines variable k + 1. The counts I, L, O, A, B, C are the lengths.
use Rattle.std.specs.Prelude.{ℕ, ◌+◌, List, ◌++◌, map, length}
use Rattle.std.proofs.Math.Option.{Option}
use Rattle.lists.specs.Parts.{Bytes}
use Rattle.aiger.specs.declared.Gate.{Gate}

-- R4.7: a latch: its next literal, its reset, and its name where a symbol line gives one
pub record NamedLatch : Type 0 where
  pub next : ℕ
  pub reset : ℕ
  pub name : Option Bytes

-- R4: what an accepted text says, section by section
pub record Sections : Type 0 where
  -- all that a text says of an input is its name, where a symbol line gives one
  pub inputs : List (Option Bytes)
  pub latches : List NamedLatch
  pub outputs : List ℕ
  pub bads : List ℕ
  pub constraints : List ℕ
  pub gates : List Gate

-- I + L, the number of variables that are not gates
abbrev pub leaves : Sections → ℕ
leaves s = length s.inputs + length s.latches

-- R4.4: M
abbrev pub variables : Sections → ℕ
variables s = leaves s + length s.gates

-- the names of the latches
abbrev pub latch_names : Sections → List (Option Bytes)
latch_names s = map (λ q. q.name) s.latches

-- the names of the inputs, then those of the latches
abbrev pub names_in : Sections → List (Option Bytes)
names_in s = s.inputs ++ latch_names s
