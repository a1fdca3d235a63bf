-- Worked examples of the composer's call (R8; R9.1, R9.2, R9.15, R9.20) on texts, and of the text that it prints. Each is computed.
use Prim.Native.Nat.{ℕ}
use mathlib.Core.List.{List, [], ◌∷◌, ◌++◌, map}
use mathlib.Core.Option.{some, none}
use mathlib.Core.Path.{◌≡◌, refl}
use lib.ListN.{replicate}
use Rattle.lists.specs.Quoted.{bytes}
use Rattle.lists.specs.Answer.{Answer, got, refused}
use Rattle.lists.specs.Parts.{Bytes}
use Rattle.lists.specs.Tests.{every}
use Rattle.text.specs.Numbers.{number_of}
use Rattle.text.specs.Texts.{good_text}
use Rattle.aiger.specs.Gates.{gate_from}
use Rattle.aiger.specs.Defined.{literal, ordered}
use Rattle.text_decimal.specs.Decimal.{decimal}
use Rattle.witness_text.specs.Header.{counted, without_liveness}
use Rattle.witness_text.specs.Symbols.{symbol_of}
use Rattle.witness_read.specs.Sections.{Sections}
use Rattle.witness_read.specs.Names.{symbols_of}
use Rattle.witness_read.specs.Order.{latch_numbered, gate_numbered, well_numbered}
use Rattle.witness_read.specs.Reading.{read_aag}
use Rattle.compose_spec.specs.Composing.{compose}
use Rattle.compose_spec.specs.Printing.{printed}
use Rattle.compose_spec.specs.Calling.{sizes, compose_sections, compose_texts, compose_call}
use Rattle.compose_spec.specs.Meaning.{Composition}
use Rattle.compose_spec.proofs.WorkedMappings.{circuit, latch, to4, x}
use Rattle.compose_spec.proofs.Examples.{model, first, second, together}
use Rattle.compose_spec.proofs.DemandLaws.{composition-means}

-- the number of the reason; 0 where there is a text
abbrev number : Answer Bytes → ℕ
number (got t) = 0
number (refused n) = n

-- ---- the text

-- `aag 7 4 1 0 2 3 1 0 0`, `2`, `4`, `6`, `8`, `10 10 3`, `11`, `14`, `15`, `4`, `12 2 4`, `14 4 8`, `i0 w0:x`, `i1 = 4`, `i2 = 2`, `i3 w1:private-input`, `l0 w0:private-latch`, `c`, `GCC FM 2026 composed-witness baseline v1`
abbrev longer : Bytes
longer =
    bytes "aag 7 4 1 0 2 3 1 0 0\n2\n4\n6\n8\n10 10 3\n11\n14\n15\n4\n12 2 4\n14 4 8\ni0 w0:x\ni1 = 4\ni2 = 2\ni3 w1:private-input\nl0 w0:private-latch\nc\nGCC FM 2026 composed-witness baseline v1\n"

-- two witnesses for the model with inputs 2 and 4 and latch 6
abbrev two : List Sections
two = (circuit (x ∷ to4 ∷ []) (latch 6 3 none ∷ []) (7 ∷ []) [] (4 ∷ []) (gate_from 8 4 2 ∷ []))
    ∷ (circuit (none ∷ none ∷ none ∷ []) [] [] (9 ∷ 8 ∷ []) [] (gate_from 8 4 6 ∷ [])) ∷ []

abbrev small : Sections
small = circuit (none ∷ none ∷ []) (latch 6 0 none ∷ []) [] [] [] []

-- names shared and private, gates, both lists, a latch with its reset: every line of the text, at its length exactly
pub every-line : compose_sections 168 small two ≡ got longer
unfolding compose number_of printed decimal
every-line = refl

-- 20: one byte short
pub one_byte_short : compose_sections 167 small two ≡ refused 20
unfolding compose number_of printed decimal
one_byte_short = refl

-- 20 comes after 16 and 19
pub twenty_last : number (compose_sections 0 small (circuit (none ∷ []) [] (2 ∷ []) [] [] [] ∷ circuit (some (bytes "= 3") ∷ []) [] [] [] [] [] ∷ []))
    ∷ number (compose_sections 0 small (circuit (none ∷ []) [] (2 ∷ []) [] [] [] ∷ circuit (none ∷ []) [] [] [] [] [] ∷ [])) ∷ []
    ≡ 16 ∷ 19 ∷ []
unfolding compose number_of
twenty_last = refl

-- ---- calls

-- a byte, the first witness of R14.7, two bytes, the second, a byte: what no pair names is never looked at
abbrev buffer : Bytes
buffer = (13 ∷ first) ++ (0 ∷ 127 ∷ second) ++ 120 ∷ []

-- R14.7 as a call, its texts one behind the other
pub composing_call : compose_call 1104 82 model (first ++ second) (0 ∷ 20 ∷ 20 ∷ 20 ∷ []) ≡ got together
unfolding compose_call read_aag good_text every number_of counted without_liveness symbols_of symbol_of latch_numbered gate_numbered well_numbered literal ordered compose printed decimal
composing_call = refl

-- an accepted call: the first pair may start anywhere, gaps are allowed, a word after the last pair is not read
pub accepted_call : compose_call 1104 82 model buffer (1 ∷ 20 ∷ 23 ∷ 20 ∷ 99 ∷ []) ≡ got together
unfolding compose_call read_aag good_text every number_of counted without_liveness symbols_of symbol_of latch_numbered gate_numbered well_numbered literal ordered compose printed decimal
accepted_call = refl

-- so demand 3 is met by an accepted call
pub accepted-means : Composition model (first ∷ second ∷ []) together
accepted-means = composition-means 1104 82 model buffer (1 ∷ 20 ∷ 23 ∷ 20 ∷ 99 ∷ []) together accepted_call

-- the reason for the call on R14.7's texts, one after the other
abbrev with_pairs : List ℕ → ℕ
with_pairs pairs = number (compose_call 1104 82 model (first ++ second) pairs)

-- 1: no pair, one pair, one and a half; 65 pairs; 64 are read, and the first of them is empty: 3
pub counts : map with_pairs ([] ∷ (0 ∷ 20 ∷ []) ∷ (0 ∷ 20 ∷ 20 ∷ []) ∷ replicate 130 0 ∷ replicate 131 0 ∷ replicate 129 0 ∷ replicate 128 0 ∷ [])
    ≡ 1 ∷ 1 ∷ 1 ∷ 1 ∷ 1 ∷ 3 ∷ 3 ∷ []
unfolding compose_call read_aag good_text every number_of counted without_liveness symbols_of symbol_of latch_numbered gate_numbered well_numbered literal ordered compose printed decimal
counts = refl

-- 1 comes before 2: one pair past the buffer, 65 pairs that overlap
pub count-before-order : map with_pairs ((0 ∷ 41 ∷ []) ∷ replicate 130 1 ∷ []) ≡ 1 ∷ 1 ∷ []
unfolding compose_call read_aag good_text every number_of counted without_liveness symbols_of symbol_of latch_numbered gate_numbered well_numbered literal ordered compose printed decimal
count-before-order = refl

-- 2: the pairs touch; they overlap by one byte; the second lies inside the first; it ends one byte past the buffer; it starts before the first
pub in_order_lem : map with_pairs ((0 ∷ 20 ∷ 20 ∷ 20 ∷ []) ∷ (0 ∷ 20 ∷ 19 ∷ 20 ∷ []) ∷ (0 ∷ 20 ∷ 5 ∷ 5 ∷ []) ∷ (0 ∷ 20 ∷ 20 ∷ 21 ∷ []) ∷ (20 ∷ 20 ∷ 0 ∷ 20 ∷ []) ∷ [])
    ≡ 0 ∷ 2 ∷ 2 ∷ 2 ∷ 2 ∷ []
unfolding compose_call read_aag good_text every number_of counted without_liveness symbols_of symbol_of latch_numbered gate_numbered well_numbered literal ordered compose printed decimal
in_order_lem = refl

-- an empty pair may stand at the end of the buffer (its text is then 3), not behind it; large words do not wrap
pub empty-pairs : map with_pairs ((0 ∷ 20 ∷ 40 ∷ 0 ∷ []) ∷ (0 ∷ 20 ∷ 41 ∷ 0 ∷ []) ∷ (0 ∷ 20 ∷ 21 ∷ 18446744073709551615 ∷ []) ∷ (0 ∷ 20 ∷ 18446744073709551615 ∷ 1 ∷ []) ∷ [])
    ≡ 3 ∷ 2 ∷ 2 ∷ 2 ∷ []
unfolding compose_call read_aag good_text every number_of counted without_liveness symbols_of symbol_of latch_numbered gate_numbered well_numbered literal ordered compose printed decimal
empty-pairs = refl

-- 2 over all pairs comes before the texts: the model is empty, witness 0 is empty, pair 2 starts too early
pub order-before_texts : number (compose_call 1104 82 [] (first ++ second) (0 ∷ 0 ∷ 0 ∷ 20 ∷ 19 ∷ 1 ∷ [])) ≡ 2
unfolding compose_call read_aag good_text every number_of counted without_liveness symbols_of symbol_of latch_numbered gate_numbered well_numbered literal ordered compose printed decimal
order-before_texts = refl

-- ---- texts

-- the reason for a model and witnesses, with work and room enough
abbrev with_texts : Bytes → List Bytes → ℕ
with_texts m ws = number (compose_texts 9999 9999 m ws)

-- `aag 1 0 1 1 0`, `2 2`, `4`: a literal out of range
abbrev high : Bytes
high = bytes "aag 1 0 1 1 0\n2 2\n4\n"

-- the line `c`, then `MAPPING`
abbrev mapping : Bytes
mapping = bytes "c\nMAPPING\n"

-- `l0 = 9`
abbrev wrong : Bytes
wrong = bytes "l0 = 9\n"

-- `o0 = 9`
abbrev plainly : Bytes
plainly = bytes "o0 = 9\n"

-- `l0 a`, `l0 b`
abbrev twice : Bytes
twice = bytes "l0 a\nl0 b\n"

-- the model before the witnesses (4 before 3), witness 0 before witness 1 (11 before 3), and 3 to 11 of witness 1 before 16 of witness 0
pub in_turn : with_texts (bytes "x\n") ([] ∷ first ∷ []) ∷ with_texts model (high ∷ [] ∷ []) ∷ with_texts model ((first ++ wrong) ∷ high ∷ []) ∷ []
    ≡ 4 ∷ 11 ∷ 11 ∷ []
unfolding compose_call read_aag good_text every number_of counted without_liveness symbols_of symbol_of latch_numbered gate_numbered well_numbered literal ordered compose printed decimal
in_turn = refl

-- 10 is for witnesses; a model may have such a comment
pub comments : with_texts (model ++ mapping) (first ∷ second ∷ []) ∷ with_texts model (first ∷ (second ++ mapping) ∷ []) ∷ [] ≡ 0 ∷ 10 ∷ []
unfolding compose_call read_aag good_text every number_of counted without_liveness symbols_of symbol_of latch_numbered gate_numbered well_numbered literal ordered compose printed decimal
comments = refl

-- names of o, b and c never map: latch 0 is shared by position, and the name is not printed
pub other_kinds : compose_texts 1104 82 model (first ∷ (second ++ plainly) ∷ []) ≡ got together
unfolding compose_call read_aag good_text every number_of counted without_liveness symbols_of symbol_of latch_numbered gate_numbered well_numbered literal ordered compose printed decimal
other_kinds = refl

-- where `l0 = 9` is 16
pub latch_name : with_texts model (first ∷ (second ++ wrong) ∷ []) ≡ 16
unfolding compose_call read_aag good_text every number_of counted without_liveness symbols_of symbol_of latch_numbered gate_numbered well_numbered literal ordered compose printed decimal
latch_name = refl

-- ---- R9.15

-- I = 1, L = 2, A = 4, O = 8, B = 16, C = 32
abbrev weighed : Sections
weighed = circuit (none ∷ []) (replicate 2 (latch 0 0 none)) (replicate 8 0) (replicate 16 0) (replicate 32 0) (replicate 4 (gate_from 0 0 0))

-- each count once, over all
pub sum : sizes (weighed ∷ circuit [] [] [] [] [] [] ∷ weighed ∷ []) ≡ 126
sum = refl

-- T is 5 for R14.7's texts, the model's M included: one word short is 15, also where 16 or 20 would apply;
-- 11 and 9 come first, even with no word; 20 with 81 bytes
pub work : number (compose_texts 1103 82 model (first ∷ second ∷ [])) ∷ number (compose_texts 1103 0 model (first ∷ (second ++ wrong) ∷ []))
    ∷ number (compose_texts 0 0 model (first ∷ high ∷ [])) ∷ number (compose_texts 0 0 model (first ∷ (second ++ twice) ∷ [])) ∷ number (compose_texts 1104 81 model (first ∷ second ∷ [])) ∷ []
    ≡ 15 ∷ 15 ∷ 11 ∷ 9 ∷ 20 ∷ []
unfolding compose_call read_aag good_text every number_of counted without_liveness symbols_of symbol_of latch_numbered gate_numbered well_numbered literal ordered compose printed decimal
work = refl

-- and 7 with the second witness twice
pub more-work : number (compose_texts 1135 9999 model (first ∷ second ∷ second ∷ [])) ∷ number (compose_texts 1136 9999 model (first ∷ second ∷ second ∷ [])) ∷ [] ≡ 15 ∷ 0 ∷ []
unfolding compose_call read_aag good_text every number_of counted without_liveness symbols_of symbol_of latch_numbered gate_numbered well_numbered literal ordered compose printed decimal
more-work = refl
