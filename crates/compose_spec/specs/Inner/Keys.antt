-- For the contracts of the composer's inner functions alone: how the table of gates writes the operands of a composed gate.
use Rattle.std.specs.Prelude.{ℕ, ◌+◌, ◌*◌}
use Rattle.compose_spec.specs.Sharing.{Operands}

-- as one number; different ones for different operands below 2 ^ 32
abbrev pub key_of : Operands → ℕ
key_of g = g.left + 4294967296 * g.right
