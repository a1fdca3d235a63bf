-- Worked examples of the composition: each is computed.
use mathlib.Core.List.{[], ◌∷◌}
use mathlib.Core.Path.{◌≡◌, refl}
use Rattle.lists.specs.Quoted.{bytes}
use Rattle.lists.specs.Answer.{got}
use Rattle.lists.specs.Parts.{Bytes}
use Rattle.lists.specs.Tests.{every}
use Rattle.text.specs.Numbers.{number_of}
use Rattle.text.specs.Texts.{good_text}
use Rattle.aiger.specs.Defined.{literal, ordered}
use Rattle.text_decimal.specs.Decimal.{decimal}
use Rattle.witness_text.specs.Header.{counted, without_liveness}
use Rattle.witness_text.specs.Symbols.{symbol_of}
use Rattle.witness_read.specs.Names.{symbols_of}
use Rattle.witness_read.specs.Order.{latch_numbered, gate_numbered, well_numbered}
use Rattle.witness_read.specs.Reading.{read_aag}
use Rattle.compose_spec.specs.Composing.{compose}
use Rattle.compose_spec.specs.Printing.{printed}
use Rattle.compose_spec.specs.Calling.{compose_texts, compose_call}

-- `aag 1 0 1 0 0`, `2 2`
abbrev pub model : Bytes
model = bytes "aag 1 0 1 0 0\n2 2\n"

-- `aag 1 0 1 1 0`, `2 2`, `2`
abbrev pub first : Bytes
first = bytes "aag 1 0 1 1 0\n2 2\n2\n"

-- the other witness: its last line is `3`
abbrev pub second : Bytes
second = bytes "aag 1 0 1 1 0\n2 2\n3\n"

-- R14.7: the text that is composed
abbrev pub together : Bytes
together =
    bytes "aag 1 0 1 0 0 2 0 0 0\n2 2 0\n2\n3\nl0 = 2\nc\nGCC FM 2026 composed-witness baseline v1\n"

pub composing_case : compose_texts 1104 82 model (first ∷ second ∷ []) ≡ got together
unfolding compose_call read_aag good_text every number_of counted without_liveness symbols_of symbol_of latch_numbered gate_numbered well_numbered literal ordered compose printed decimal
composing_case = refl
