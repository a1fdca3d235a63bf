-- For the contract of the function that prints gates: gates as keys of a table.
use Rattle.std.specs.Prelude.{ℕ, ◌+◌, ◌<◌, List, map, ◌≡◌, length}
use Rattle.lists.specs.Tests.{Each}
use Rattle.text_decimal.specs.Printed.{text_of}
use Rattle.text_print.specs.declared.Printer.{Printer}
use Rattle.text_print.specs.Inner.Prints.{PrintsOn}
use Rattle.key_table.specs.Inner.Table.{Held}
use Rattle.compose_spec.specs.Sharing.{Operands, gates_from}
use Rattle.compose_spec.specs.Inner.Keys.{key_of}
use Rattle.compose_spec.specs.Printing.{gate_lines}

-- the operand in the lower half of a key is small
abbrev pub Narrow : Operands → Type 0
Narrow g = g.left < 4294967296

-- a table holds the keys of the gates gs, and their variables are small
pub record GateKeys (gs : List Operands) (first : ℕ) (table : List ℕ) (heads count : ℕ) : Type 0 where
  pub held : Held heads (map key_of gs) table
  pub counted : length gs ≡ count
  pub narrow : Each Narrow gs
  pub small : first + count < 4294967296

-- there are such gates
pub record CanPrintGates (first : ℕ) (table : List ℕ) (heads count : ℕ) : Type 0 where
  pub gs : List Operands
  pub keys : GateKeys gs first table heads count

-- the lines of the gates
abbrev pub PrintsGates : ℕ → List ℕ → ℕ → ℕ → Printer → Printer → Type 0
PrintsGates first table heads count p p' =
    (gs : List Operands) → GateKeys gs first table heads count → PrintsOn p (text_of (gate_lines (gates_from first gs))) p'
