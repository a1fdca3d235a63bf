-- Worked examples of the definitions: a text, its sections and their words.
use mathlib.Core.Bool.{true}
use mathlib.Core.List.{[], ◌∷◌}
use mathlib.Core.Option.{some, none}
use mathlib.Core.Path.{◌≡◌, refl}
use Rattle.lists.specs.Quoted.{bytes}
use Rattle.lists.specs.Answer.{got, refused}
use Rattle.lists.specs.Parts.{Bytes}
use Rattle.lists.specs.Tests.{every}
use Rattle.text.specs.Numbers.{number_of}
use Rattle.text.specs.Texts.{limited, good_text}
use Rattle.aiger.specs.Defined.{literal}
use Rattle.witness_text.specs.Header.{counted, without_liveness}
use Rattle.witness_text.specs.Symbols.{symbol_of}
use Rattle.witness_read.specs.Sections.{Sections}
use Rattle.witness_read.specs.Names.{symbols_of}
use Rattle.witness_read.specs.Order.{latch_numbered, well_numbered}
use Rattle.witness_read.specs.Reading.{read_aag}
use Rattle.witness_load.specs.Inner.Loaded.{name_from, Loaded, with_room}

-- the lines `aag 2 1 1 1 0`, `2`, `4 3`, `4`, `i0 a` and `l0 `
abbrev text : Bytes
text = bytes "aag 2 1 1 1 0\n2\n4 3\n4\ni0 a\nl0 \n"

-- an input `a`, and a latch with an empty name
abbrev sections : Sections
sections =
    record {
      inputs = some (bytes "a") ∷ [];
      latches = record { next = 3; reset = 0; name = some [] } ∷ [];
      outputs = 4 ∷ [];
      bads = [];
      constraints = [];
      gates = [];
    }

pub text_read_lem : read_aag limited true text ≡ got sections
unfolding read_aag good_text every counted without_liveness symbols_of symbol_of well_numbered latch_numbered literal number_of
text_read_lem = refl

-- `a` stands at place 25 of the text, and the empty name at its place 30; a word past the result keeps its value
pub text_loaded : Loaded text sections (7 ∷ 7 ∷ 7 ∷ 7 ∷ 7 ∷ 7 ∷ 7 ∷ 7 ∷ []) (25 ∷ 1 ∷ 30 ∷ 0 ∷ 3 ∷ 0 ∷ 4 ∷ 7 ∷ [])
text_loaded = record { name_words = 25 ∷ 1 ∷ 30 ∷ 0 ∷ []; count = refl; names = refl; stand = refl }

-- it needs 7 words
pub text_fits : with_room 7 (got sections) ≡ got sections
text_fits = refl

pub text_too_long : with_room 6 (got sections) ≡ refused 20
text_too_long = refl

-- two zeros say that there is no name; other words at place 0 and words past the text's end say nothing
pub no_name : (name_from text 0 0 ≡ some none) × (name_from text 0 5 ≡ none) × (name_from text 30 2 ≡ none)
no_name = (refl, refl, refl)
