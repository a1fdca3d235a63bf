-- The composer on texts (R8; the reasons in R10's order): 1, 2, the texts one after the other with 3 to 11, 15, then 16 to 20.
use Rattle.std.specs.Prelude.{ℕ, ◌+◌, ◌*◌, true, false, ◌&&◌, List, [], ◌∷◌, leb, length}
use Rattle.lists.specs.Answer.{Answer, got, unless, and_then}
use Rattle.lists.specs.Parts.{Bytes, part}
use Rattle.lists.specs.Words.{pairs_of, in_order}
use Rattle.text.specs.Texts.{limited}
use Rattle.witness_read.specs.Sections.{Sections, variables}
use Rattle.witness_read.specs.Reading.{read_aag}
use Rattle.compose_spec.specs.Composing.{compose}
use Rattle.compose_spec.specs.Printing.{printed}

-- R10.2: the sections of all witnesses, or the first number of the first witness that is refused
abbrev pub read_all : List Bytes → Answer (List Sections)
read_all [] = got []
read_all (t ∷ ts) = and_then (read_aag limited true t) (λ s. and_then (read_all ts) (λ ss. got (s ∷ ss)))

-- R9.15: M + O + B + C of one text, and T of several
abbrev pub size : Sections → ℕ
size s = variables s + length s.outputs + length s.bads + length s.constraints

abbrev pub sizes : List Sections → ℕ
sizes [] = 0
sizes (s ∷ ss) = size s + sizes ss

-- R9.20: the text of sections, where `room` bytes are lent for it
abbrev pub printed_within : ℕ → Sections → Answer Bytes
printed_within room s = unless 20 (leb (length (printed s)) room) (got (printed s))

-- 16 to 20: the text of the composition
abbrev pub compose_sections : ℕ → Sections → List Sections → Answer Bytes
compose_sections room m ws = and_then (compose m ws) (printed_within room)

-- R9.15, then 16 to 20, where `work` words are lent
abbrev pub compose_read : ℕ → ℕ → Sections → List Sections → Answer Bytes
compose_read work room m ws = unless 15 (leb (16 * sizes (m ∷ ws) + 1024) work) (compose_sections room m ws)

-- R10.2: the model, then the witnesses, then 15 to 20
abbrev pub compose_texts : ℕ → ℕ → Bytes → List Bytes → Answer Bytes
compose_texts work room model ts = and_then (read_aag limited false model) (λ m. and_then (read_all ts) (compose_read work room m))

-- the witness texts: parts of a buffer by pairs of offset and length
abbrev pub texts_in : Bytes → List ℕ → List Bytes
texts_in buffer pairs = pairs_of (λ offset n. part buffer offset (offset + n)) pairs

-- The call: R9.1, R9.2, then the texts.
unfoldable pub compose_call : ℕ → ℕ → Bytes → Bytes → List ℕ → Answer Bytes
compose_call work room model buffer pairs =
    unless 1 (leb 2 (length (texts_in buffer pairs)) && leb (length (texts_in buffer pairs)) 64)
    (unless 2 (in_order 0 (length buffer) pairs)
    (compose_texts work room model (texts_in buffer pairs)))
