-- Worked examples of the transition reader, on short texts: what is taken, each reason, and which of two comes first.
use Prim.Native.Nat.{ℕ}
use mathlib.Core.List.{List, [], ◌∷◌, ◌++◌, map}
use mathlib.Core.Path.{◌≡◌, refl}
use lib.ListN.{replicate}
use Rattle.lists.specs.Quoted.{bytes}
use Rattle.lists.specs.Answer.{Answer, got, refused}
use Rattle.lists.specs.Parts.{Bytes, zeros}
use Rattle.lists.specs.Tests.{every}
use Rattle.text.specs.Numbers.{number_of}
use Rattle.text.specs.Texts.{good_text}
use Rattle.aiger.specs.Gates.{gate_from}
use Rattle.aiger.specs.Defined.{literal, defining, ordered, defined}
use Rattle.model.specs.Circuit.{Circuit}
use Rattle.model.specs.Limits.{counted, well_defined}
use Rattle.model_read.specs.Reading.{read_transition, read_of, gates_after}

-- the number of the reason; 0 where the text is taken
abbrev pub reason : Answer Circuit → ℕ
reason (got c) = 0
reason (refused n) = n

-- with 3 gate words and 4 work words: enough for one gate and M = 3
abbrev pub reasons : List Bytes → List ℕ
reasons ts = map (λ t. reason (read_transition t 3 4)) ts

-- the text that a first and a second part make
abbrev pub after : Bytes → List Bytes → List Bytes
after head tails = map (λ t. head ++ t) tails

-- ---- what is taken

-- the shortest text that is taken: a latch whose next literal is 0
abbrev pub shortest : Bytes
shortest = bytes "aag 1 0 1 0 0\n2 0\n"

pub shortest_read : read_transition shortest 0 2 ≡ got (record { variables = 1; inputs = []; latches = record { current = 2; next = 0 } ∷ []; outputs = []; gates = [] })
unfolding read_transition good_text every number_of counted well_defined literal defining ordered defined
shortest_read = refl

-- the same without the last byte 10; with byte 13 before each byte 10; with tabs, more blanks and blanks at the ends;
-- with a plus sign and zeros in front
pub line-ends :
    reasons (
    bytes "aag 1 0 1 0 0\n2 0" ∷
    bytes "aag 1 0 1 0 0\r\n2 0\r\n" ∷
    bytes " aag\t1  0 1 0 0 \n\t2 0 \n" ∷
    bytes "aag +1 00 01 0 0\n+02 000\n" ∷
    [])
    ≡ 0 ∷ 0 ∷ 0 ∷ 0 ∷ []
unfolding read_transition good_text every number_of counted well_defined literal defining ordered defined
line-ends = refl

-- R5.7: behind the gates any line may stand: empty, `x`, `c`, byte 127; not a byte above 127, which is 3 anywhere
pub lines_after :
    reasons (after shortest (
    bytes "\n\n" ∷
    bytes "x\n" ∷
    bytes "c\n3\n" ∷
    (127 ∷ []) ∷
    (128 ∷ []) ∷
    []))
    ≡ 0 ∷ 0 ∷ 0 ∷ 0 ∷ 3 ∷ []
unfolding read_transition good_text every number_of counted well_defined literal defining ordered defined
lines_after = refl

-- variables in any order, and negated next and output literals: `aag 3 1 1 1 1`, `6`, `2 7`, `5`, `4 3 2`
abbrev pub mixed : Bytes
mixed = bytes "aag 3 1 1 1 1\n6\n2 7\n5\n4 3 2\n"

abbrev pub mixed_model : Circuit
mixed_model =
    record { variables = 3; inputs = 6 ∷ []; latches = record { current = 2; next = 7 } ∷ []; outputs = 5 ∷ []; gates = gate_from 4 3 2 ∷ [] }

pub mixed_read : read_transition mixed 3 4 ≡ got mixed_model
unfolding read_transition good_text every number_of counted well_defined literal defining ordered defined
mixed_read = refl

-- the gate words after the call: the gate's in front, the rest as it was; all as they were where the text is refused
pub mixed_words : (gates_after (read_transition mixed 5 4) (7 ∷ 7 ∷ 7 ∷ 8 ∷ 9 ∷ []) ≡ 4 ∷ 3 ∷ 2 ∷ 8 ∷ 9 ∷ [])
    × (gates_after (read_transition mixed 2 4) (7 ∷ 7 ∷ []) ≡ 7 ∷ 7 ∷ [])
unfolding read_transition good_text every number_of counted well_defined literal defining ordered defined
mixed_words = (refl, refl)

-- ---- initializers

-- R5.6, latch 4: `0`, `1`, `4`, `04`, `+4`; not `00`, `01`, `+0`, `+1`, `2`, `5`, `x`, nor a fourth field
abbrev pub latch_four : Bytes
latch_four = bytes "aag 2 1 1 0 0\n2\n4 4 "

pub initializers :
    reasons (after latch_four (
    bytes "0\n" ∷
    bytes "1\n" ∷
    bytes "4\n" ∷
    bytes "04\n" ∷
    bytes "+4\n" ∷
    bytes "00\n" ∷
    bytes "01\n" ∷
    bytes "+0\n" ∷
    bytes "+1\n" ∷
    bytes "2\n" ∷
    bytes "5\n" ∷
    bytes "x\n" ∷
    bytes "0 0\n" ∷
    []))
    ≡ 0 ∷ 0 ∷ 0 ∷ 0 ∷ 0 ∷ 8 ∷ 8 ∷ 8 ∷ 8 ∷ 8 ∷ 8 ∷ 8 ∷ 8 ∷ []
unfolding read_transition good_text every number_of counted well_defined literal defining ordered defined
initializers = refl

-- `0 0 00`: the initializer reads as the literal 0, which then may define no variable; `0 0 01` does not
abbrev pub latch_nought : Bytes
latch_nought = bytes "aag 1 0 1 0 0\n0 0 "

pub latch_zero :
    reasons (after latch_nought (
    bytes "00\n" ∷
    bytes "01\n" ∷
    []))
    ≡ 11 ∷ 8 ∷ []
unfolding read_transition good_text every number_of counted well_defined literal defining ordered defined
latch_zero = refl

-- ---- reasons

-- R9.4: no text, an empty first line, `aig`, four counts, six counts, a count that is no number; the header word alone; a header that
-- stands second
pub headers :
    reasons (
    [] ∷
    bytes "\naag 1 0 1 0 0\n2 0\n" ∷
    bytes "aig 1 0 1 0 0\n2 0\n" ∷
    bytes "aag 1 0 1 0\n2 0\n" ∷
    bytes "aag 1 0 1 0 0 0\n2 0\n" ∷
    bytes "aag 1 0 1 0 x\n2 0\n" ∷
    bytes "aag\n" ∷
    bytes "c\naag 1 0 1 0 0\n2 0\n" ∷
    [])
    ≡ 4 ∷ 4 ∷ 4 ∷ 4 ∷ 4 ∷ 4 ∷ 4 ∷ 4 ∷ []
unfolding read_transition good_text every number_of counted well_defined literal defining ordered defined
headers = refl

-- R9.5: M too large by one and too small by one, no latch, 9 latches; the count 18446744073709551615 is read, and 18446744073709551616 is
-- not (4)
pub limits :
    reasons (
    bytes "aag 2 0 1 0 0\n2 0\n" ∷
    bytes "aag 1 1 1 0 0\n2\n2 0\n" ∷
    bytes "aag 1 1 0 0 0\n2\n" ∷
    bytes "aag 9 0 9 0 0\n" ∷
    bytes "aag 18446744073709551615 0 1 0 0\n" ∷
    bytes "aag 18446744073709551616 0 1 0 0\n" ∷
    [])
    ≡ 5 ∷ 5 ∷ 5 ∷ 5 ∷ 5 ∷ 4 ∷ []
unfolding read_transition good_text every number_of counted well_defined literal defining ordered defined
limits = refl

-- R9.8 in the sections of `aag 3 1 1 1 1`: a line is missing, empty, or has no number, or a field more or less than it should
abbrev pub header : Bytes
header = bytes "aag 3 1 1 1 1\n"

pub section-lines :
    reasons (after header (
    [] ∷
    bytes "2\n4 6\n6\n" ∷
    bytes "\n4 6\n6\n6 4 2\n" ∷
    bytes "2 2\n4 6\n6\n6 4 2\n" ∷
    bytes "2\n4\n6\n6 4 2\n" ∷
    bytes "2\n4 6\n\n6 4 2\n" ∷
    bytes "2\n4 6\n6\n6 4\n" ∷
    bytes "2\n4 6\n6\n6 4 2 2\n" ∷
    bytes "x\n4 6\n6\n6 4 2\n" ∷
    bytes "2\n4 -6\n6\n6 4 2\n" ∷
    bytes "2\n4 6\n6\n6 4 2\n" ∷
    []))
    ≡ 8 ∷ 8 ∷ 8 ∷ 8 ∷ 8 ∷ 8 ∷ 8 ∷ 8 ∷ 8 ∷ 8 ∷ 0 ∷ []
unfolding read_transition good_text every number_of counted well_defined literal defining ordered defined
section-lines = refl

-- R9.11: an input of 0, an odd one, one above 2M; an output of 2M + 1 is taken and one of 2M + 2 not; a next literal of 2M + 2;
-- a latch with the variable of the input, a gate that reads itself; the literal 18446744073709551615 is read, and 18446744073709551616 is
-- not (8)
pub literals :
    reasons (after header (
    bytes "0\n4 6\n6\n6 4 2\n" ∷
    bytes "3\n4 6\n6\n6 4 2\n" ∷
    bytes "8\n4 6\n6\n6 4 2\n" ∷
    bytes "2\n4 6\n7\n6 4 2\n" ∷
    bytes "2\n4 6\n8\n6 4 2\n" ∷
    bytes "2\n4 8\n6\n6 4 2\n" ∷
    bytes "2\n2 6\n6\n6 2 2\n" ∷
    bytes "2\n4 6\n6\n6 6 2\n" ∷
    bytes "2\n4 6\n18446744073709551615\n6 4 2\n" ∷
    bytes "2\n4 6\n18446744073709551616\n6 4 2\n" ∷
    []))
    ≡ 11 ∷ 11 ∷ 11 ∷ 0 ∷ 11 ∷ 11 ∷ 11 ∷ 11 ∷ 11 ∷ 8 ∷ []
unfolding read_transition good_text every number_of counted well_defined literal defining ordered defined
literals = refl

-- ---- which of two reasons comes first (R10.1)

-- 3 before 4: byte 128 in a text without a header. 4 before 5: a count that is no number, and M that is no sum. 8 before 11: an input
-- of 0, and a line that is missing
pub three_four_eight :
    reasons (
    (128 ∷ []) ∷
    bytes "aag 9 0 1 0 x\n" ∷
    bytes "aag 2 1 1 0 0\n0\n" ∷
    [])
    ≡ 3 ∷ 4 ∷ 8 ∷ []
unfolding read_transition good_text every number_of counted well_defined literal defining ordered defined
three_four_eight = refl

-- 5 before 7, with one work word: M is no sum. 7 before 8, with M work words, or 3A - 1 gate words, and no line
pub five_seven_eight :
    (read_transition (bytes "aag 2 0 1 0 0\n") 0 1 ≡ refused 5)
    × (read_transition (bytes "aag 1 0 1 0 0\n") 0 1 ≡ refused 7)
    × (read_transition (bytes "aag 1 0 1 0 0\n") 0 2 ≡ refused 8)
    × (read_transition header 2 4 ≡ refused 7)
    × (read_transition header 3 3 ≡ refused 7)
    × (read_transition header 3 4 ≡ refused 8)
unfolding read_transition good_text every number_of counted well_defined literal defining ordered defined
five_seven_eight = (refl, refl, refl, refl, refl, refl)

-- 5 before 7 for the gate words too: `aag 9 1 1 1 1`, no gate words and no work words
pub five_before_seven : read_transition (bytes "aag 9 1 1 1 1\n") 0 0 ≡ refused 5
unfolding read_transition good_text every number_of counted
five_before_seven = refl

-- what the call returns: the record with zeros past the counts, or the number of a refusal
pub returned :
    (read_of (read_transition shortest 0 2) ≡ got (record {
      max_variable = 1;
      input_count = 0;
      inputs = zeros 64;
      latch_count = 1;
      latches = record { current = 2; next = 0 } ∷ replicate 7 (record { current = 0; next = 0 });
      output_count = 0;
      outputs = zeros 128;
      and_count = 0;
    }))
    × (read_of (read_transition shortest 0 1) ≡ refused 7)
unfolding read_transition good_text every number_of counted well_defined literal defining ordered defined
returned = (refl, refl)
