-- For the contracts of the composer's inner functions: the header of the composition by its counts.
use Rattle.std.specs.Prelude.{[], ◌∷◌, map, length}
use Rattle.lists.specs.Parts.{Bytes}
use Rattle.text.specs.Fields.{aag}
use Rattle.text_decimal.specs.Decimal.{decimal}
use Rattle.text_decimal.specs.Printed.{spaced}
use Rattle.witness_read.specs.Sections.{Sections, variables}
use Rattle.compose_lines.specs.declared.Counts.{Counts}

-- the header of a text without outputs and liveness: `aag`, then M I L 0 A B C 0 0
unfoldable pub header_of : Counts → Bytes
header_of n =
    spaced (aag ∷ map decimal
    (n.variables ∷ n.inputs ∷ n.latches ∷ 0 ∷ n.gates ∷ n.bads ∷ n.constraints ∷ 0 ∷ 0 ∷ []))

-- the counts of sections
abbrev pub counts_of : Sections → Counts
counts_of s =
    record {
      variables = variables s;
      inputs = length s.inputs;
      latches = length s.latches;
      gates = length s.gates;
      bads = length s.bads;
      constraints = length s.constraints;
    }
