-- Worked examples of the definitions.
use mathlib.Core.Path.{◌≡◌, refl}
use Rattle.lists.specs.Quoted.{bytes}
use Rattle.text_decimal.specs.Decimal.{decimal}
use Rattle.compose_spec.specs.Inner.Keys.{key_of}
use Rattle.compose_lines.specs.Inner.Header.{header_of}

-- `aag 3 1 1 0 1 2 0 0 0`
pub a_header :
    header_of (record { variables = 3; inputs = 1; latches = 1; gates = 1; bads = 2; constraints = 0 })
    ≡ bytes "aag 3 1 1 0 1 2 0 0 0"
unfolding header_of decimal
a_header = refl

-- the operands 2 and 3
pub a_key : key_of (record { left = 2; right = 3 }) ≡ 12884901890
a_key = refl
