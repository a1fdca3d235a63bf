-- For the contracts of the composer's inner functions: the names of composed inputs and latches (R8.8), by the words that say whose they are.
use Rattle.std.specs.Prelude.{ℕ, cond, List, []}
use Rattle.std.proofs.Math.Option.{Option}
use Rattle.lists.specs.Bits.{odd}
use Rattle.lists.specs.Firsts.{appearing}
use Rattle.lists.specs.Parts.{Bytes}
use Rattle.witness_read.specs.Sections.{Sections}
use Rattle.compose_spec.specs.Numbering.{Entry, same_entry, private_name, shared_name}
use Rattle.compose_joint.specs.declared.Leaves.{Leaves}
use Rattle.compose_joint.specs.Inner.Joint.{unnamed_of, entries_of}

-- the inputs, or latches, of the composition, in the order of first appearance
abbrev pub firsts_of : Leaves → Sections → List Sections → List Entry
firsts_of leaf m ws = appearing same_entry [] (entries_of leaf m 0 ws)

-- the name of one of witness w, by its origin word and its own name: an odd word is private to the witness, an even one is a literal of the model
abbrev pub name_for : Leaves → ℕ → ℕ → Option Bytes → Bytes
name_for leaf w origin name = cond (odd origin) (private_name (unnamed_of leaf) w name) (shared_name origin)
