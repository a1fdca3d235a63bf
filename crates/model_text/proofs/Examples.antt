-- Worked examples of the definitions: the header of model K (R13), its lines, and what is easily misread.
use mathlib.Core.Bool.{true, false}
use mathlib.Core.List.{List, [], ◌∷◌, map}
use mathlib.Core.Path.{◌≡◌, refl}
use Rattle.lists.specs.Quoted.{bytes}
use Rattle.lists.specs.Answer.{got, refused}
use Rattle.lists.specs.Parts.{Bytes}
use Rattle.text.specs.Numbers.{number_of}
use Rattle.model.specs.declared.AigerLatch.{AigerLatch}
use Rattle.model_text.specs.Header.{counts_from, header_of}
use Rattle.model_text.specs.ModelLines.{initializer, latch_line}

-- ---- headers

-- `aag 3 1 1 1 1`
abbrev pub header_k : Bytes
header_k = bytes "aag 3 1 1 1 1"

pub counts-k : header_of (header_k ∷ []) ≡ got (counts_from (3 ∷ 1 ∷ 1 ∷ 1 ∷ 1 ∷ []))
unfolding number_of
counts-k = refl

-- no line; an empty line; `aag 3 1 1 1`, one count too few; `aag 3 1 1 1 1 0`, one too many; `aag 3 1 1 1 x`; `aig 3 1 1 1 1`
abbrev pub no_headers : List (List Bytes)
no_headers =
    [] ∷ ([] ∷ [])
    ∷ (bytes "aag 3 1 1 1" ∷ [])
    ∷ (bytes "aag 3 1 1 1 1 0" ∷ [])
    ∷ (bytes "aag 3 1 1 1 x" ∷ [])
    ∷ (bytes "aig 3 1 1 1 1" ∷ []) ∷ []

pub refused_headers : map header_of no_headers ≡ refused 4 ∷ refused 4 ∷ refused 4 ∷ refused 4 ∷ refused 4 ∷ refused 4 ∷ []
unfolding number_of
refused_headers = refl

-- ---- latches

-- `0`, `1`, `4`, `+4`, `04` of the latch 4
pub initializers-taken : map (initializer 4) (bytes "0" ∷ bytes "1" ∷ bytes "4" ∷ bytes "+4" ∷ bytes "04" ∷ []) ≡ true ∷ true ∷ true ∷ true ∷ true ∷ []
unfolding number_of
initializers-taken = refl

-- `00`, `01`, `+1`, `2`, `5`, `x` of the latch 4
pub initializers-refused : map (initializer 4) (bytes "00" ∷ bytes "01" ∷ bytes "+1" ∷ bytes "2" ∷ bytes "5" ∷ bytes "x" ∷ [])
    ≡ false ∷ false ∷ false ∷ false ∷ false ∷ false ∷ []
unfolding number_of
initializers-refused = refl

abbrev pub latch_k : AigerLatch
latch_k = record { current = 4; next = 6 }

-- `4 6`, `4 6 0`, `4 6 4`
pub latches-taken : map latch_line (bytes "4 6" ∷ bytes "4 6 0" ∷ bytes "4 6 4" ∷ []) ≡ got latch_k ∷ got latch_k ∷ got latch_k ∷ []
unfolding number_of
latches-taken = refl

-- the empty line, `4`, `4 6 6`, `4 6 0 0`, `x 6`
pub latches-refused : map latch_line ([] ∷ bytes "4" ∷ bytes "4 6 6" ∷ bytes "4 6 0 0" ∷ bytes "x 6" ∷ [])
    ≡ refused 8 ∷ refused 8 ∷ refused 8 ∷ refused 8 ∷ refused 8 ∷ []
unfolding number_of
latches-refused = refl

-- zeros in front are taken in every place: `04 06 00004`
pub zeros_in_front : latch_line (bytes "04 06 00004") ≡ got latch_k
unfolding number_of
zeros_in_front = refl
