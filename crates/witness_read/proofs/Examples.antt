-- Worked examples of the witness reader, on short texts: the sections that are read, and the header, latch and gate lines.
use Prim.Native.Nat.{ℕ}
use mathlib.Core.Bool.{Bool, true, false}
use mathlib.Core.List.{List, [], ◌∷◌, ◌++◌, map}
use mathlib.Core.Option.{some, none}
use mathlib.Core.Path.{◌≡◌, refl, ap}
use lib.ListN.{length, drop, replicate}
use Rattle.lists.specs.Quoted.{bytes}
use Rattle.lists.specs.Answer.{Answer, got, refused, unless, and_then}
use Rattle.lists.specs.Parts.{Bytes}
use Rattle.lists.specs.Tests.{every}
use Rattle.text.specs.Lines.{lines_of}
use Rattle.text.specs.Numbers.{number_of}
use Rattle.text.specs.declared.Reader.TheVariants.{Witness}
use Rattle.text.specs.Texts.{limited, free, within, good_bytes, good_end, good_text}
use Rattle.aiger.specs.Gates.{gate_from}
use Rattle.aiger.specs.Defined.{literal, ordered}
use Rattle.witness_text.specs.Header.{counts_from, header_of, counted, without_liveness}
use Rattle.witness_text.specs.Symbols.{symbol_of}
use Rattle.witness_read.specs.Sections.{Sections}
use Rattle.witness_read.specs.Names.{symbols_of}
use Rattle.witness_read.specs.Order.{latch_numbered, gate_numbered, well_numbered}
use Rattle.witness_read.specs.Reading.{read_aag, after_header, counts_in, counts_read}

-- the number of the reason; 0 where the text is taken
abbrev pub reason : Answer Sections → ℕ
reason (got s) = 0
reason (refused n) = n

-- of texts read as witnesses, as models, and as each of the two
abbrev pub witnesses : List Bytes → List ℕ
witnesses ts = map (λ t. reason (read_aag limited true t)) ts

abbrev pub models : List Bytes → List ℕ
models ts = map (λ t. reason (read_aag limited false t)) ts

abbrev pub both : List Bytes → List (List ℕ)
both ts = witnesses ts ∷ models ts ∷ []

-- the texts that a first part and each of the second parts make
abbrev pub after : Bytes → List Bytes → List Bytes
after head tails = map (λ t. head ++ t) tails

-- `aag` and a space
abbrev pub word : Bytes
word = bytes "aag "

-- ---- the texts of the composing case (R14.7)

-- sections with one latch, next literal 2, reset 0
abbrev pub one_latch : List ℕ → Sections
one_latch outs = record { inputs = []; latches = record { next = 2; reset = 0; name = none } ∷ []; outputs = outs; bads = []; constraints = []; gates = [] }

-- the model: the reset is absent, so 0
pub model_read_lem : read_aag limited false (bytes "aag 1 0 1 0 0\n2 2\n") ≡ got (one_latch [])
unfolding read_aag good_text every number_of counted without_liveness symbols_of symbol_of latch_numbered gate_numbered well_numbered literal ordered
model_read_lem = refl

-- the two witnesses, up to their output
abbrev pub witness_text : Bytes
witness_text = bytes "aag 1 0 1 1 0\n2 2\n"

pub witnesses_read_lem : map (read_aag limited true) (after witness_text (bytes "2\n" ∷ bytes "3\n" ∷ [])) ≡ got (one_latch (2 ∷ [])) ∷ got (one_latch (3 ∷ [])) ∷ []
unfolding read_aag good_text every number_of counted without_liveness symbols_of symbol_of latch_numbered gate_numbered well_numbered literal ordered
witnesses_read_lem = refl

-- the composition
abbrev pub composed_text : Bytes
composed_text = bytes "aag 1 0 1 0 0 2 0 0 0\n2 2 0\n2\n3\nl0 = 2\nc\nGCC FM 2026 composed-witness baseline v1\n"

-- a latch whose name is `= 2`, and two bads
abbrev pub composed : Sections
composed = record { inputs = []; latches = record { next = 2; reset = 0; name = some (bytes "= 2") } ∷ []; outputs = []; bads = 2 ∷ 3 ∷ []; constraints = []; gates = [] }

-- it is read without limits, alike as a witness and as a model
pub composed_read : map (λ witness. read_aag free witness composed_text) (true ∷ false ∷ []) ≡ got composed ∷ got composed ∷ []
unfolding read_aag good_text every number_of counted without_liveness symbols_of symbol_of latch_numbered gate_numbered well_numbered literal ordered
composed_read = refl

-- ---- every section

-- `aag 6 2 2 1 2 1 1`, `2`, `4`, `6 10 13`, `8 3`, `5`, `7`, `9`, `10 9 4`, `12 11 0`, `i1 a b`, `l1 `, `o0 x`, `o0 y`, `b0 z`, `c0 w`, `l0 = 2`, `c`, `end`
abbrev pub full_text : Bytes
full_text = bytes "aag 6 2 2 1 2 1 1\n2\n4\n6 10 13\n8 3\n5\n7\n9\n10 9 4\n12 11 0\ni1 a b\nl1 \no0 x\no0 y\nb0 z\nc0 w\nl0 = 2\nc\nend\n"

-- input 0 has no name, latch 1 the empty one; a reset of 2M + 1; the symbols go on after `c0 w`; a second name of output 0
pub full_read : read_aag limited true full_text
    ≡ got (record {
      inputs = none ∷ some (bytes "a b") ∷ [];
      latches = record { next = 10; reset = 13; name = some (bytes "= 2") } ∷ record { next = 3; reset = 0; name = some [] } ∷ [];
      outputs = 5 ∷ [];
      bads = 7 ∷ [];
      constraints = 9 ∷ [];
      gates = gate_from 10 9 4 ∷ gate_from 12 11 0 ∷ [];
    })
unfolding read_aag good_text every number_of counted without_liveness symbols_of symbol_of latch_numbered gate_numbered well_numbered literal ordered
full_read = refl

-- what the call returns: the counts of the header, absent ones 0
pub full_counts : counts_read (read_aag limited true full_text) ≡ got (counts_from (6 ∷ 2 ∷ 2 ∷ 1 ∷ 2 ∷ 1 ∷ 1 ∷ 0 ∷ 0 ∷ []))
unfolding read_aag good_text every number_of counted without_liveness symbols_of symbol_of latch_numbered gate_numbered well_numbered literal ordered
full_counts = refl

-- M I L O A B C of any sections; J and F are 0
pub counts_in_lem : counts_in (record {
  inputs = replicate 1 none;
  latches = replicate 2 (record { next = 0; reset = 0; name = none });
  outputs = replicate 3 0;
  gates = replicate 4 (gate_from 0 0 0);
  bads = replicate 5 0;
  constraints = replicate 6 0;
})
    ≡ counts_from (7 ∷ 1 ∷ 2 ∷ 3 ∷ 4 ∷ 5 ∷ 6 ∷ 0 ∷ 0 ∷ [])
counts_in_lem = refl

-- ---- length and header

-- any text of 16,777,217 bytes is refused; at 16,777,216 the limit says nothing
pub too_long : (witness : Bool) (t : Bytes) → length t ≡ 16777217 → read_aag limited witness t ≡ refused 3
unfolding read_aag good_text every
too_long witness t p = ap (λ n. unless 3 (every (within limited 16777216 n ∷ good_bytes Witness t ∷ good_end Witness t ∷ [])) (and_then (header_of (lines_of t)) (after_header limited witness (drop 1 (lines_of t))))) p

pub longest : (t : Bytes) → length t ≡ 16777216 → good_text limited Witness t ≡ good_text free Witness t
unfolding good_text every
longest t p = ap (λ n. every (within limited 16777216 n ∷ good_bytes Witness t ∷ good_end Witness t ∷ [])) p

-- M = 0: `aag 0 0 0 0 0` and with one and with four more counts. Not: four numbers, ten, none
pub header_lengths : witnesses (after word (
    bytes "0 0 0 0 0\n" ∷ bytes "0 0 0 0 0 0\n" ∷
    bytes "0 0 0 0 0 0 0 0 0\n" ∷ bytes "0 0 0 0\n" ∷
    bytes "0 0 0 0 0 0 0 0 0 0\n" ∷ bytes "\n" ∷
    [])) ≡ 0 ∷ 0 ∷ 0 ∷ 4 ∷ 4 ∷ 4 ∷ []
unfolding read_aag good_text every number_of counted without_liveness symbols_of symbol_of latch_numbered gate_numbered well_numbered literal ordered
header_lengths = refl

-- taken: ` aag  0`, tab, `0`, byte 11, `0`, byte 12, `0 0 `; `aag +0 0 0 0 +00`.
-- Not: `aag 0 0 0 0 00`; byte 31 for a blank; `aag0 0 0 0 0 0`; `Aag 0 0 0 0 0`; an empty line first; `x` as A
pub header_forms : witnesses (
    bytes " aag  0\t0\u{b}0\u{c}0 0 \n" ∷
    bytes "aag +0 0 0 0 +00\n" ∷ bytes "aag 0 0 0 0 00\n" ∷
    bytes "aag 0 0 0 0\u{1f}0\n" ∷ bytes "aag0 0 0 0 0 0\n" ∷
    bytes "Aag 0 0 0 0 0\n" ∷ bytes "\naag 0 0 0 0 0\n" ∷
    bytes "aag 0 0 0 0 x\n" ∷
    []) ≡ 0 ∷ 0 ∷ 4 ∷ 4 ∷ 4 ∷ 4 ∷ 4 ∷ 4 ∷ []
unfolding read_aag good_text every number_of counted without_liveness symbols_of symbol_of latch_numbered gate_numbered well_numbered literal ordered
header_forms = refl

-- R9.5: M of 2,000,000 and 2,000,001; one less and one more than I + L + A, where O does not count; a sum of 2^64.
-- Without limits: 2,000,001; one less again
pub limits_of_m :
    (map (λ ns. counted limited (counts_from ns)) (
    (2000000 ∷ 1000000 ∷ 600000 ∷ 0 ∷ 400000 ∷ []) ∷ (2000001 ∷ 1000001 ∷ 600000 ∷ 0 ∷ 400000 ∷ []) ∷ (3 ∷ 2 ∷ 1 ∷ 5 ∷ 1 ∷ []) ∷ (5 ∷ 2 ∷ 1 ∷ 5 ∷ 1 ∷ []) ∷
    (0 ∷ 1 ∷ 0 ∷ 0 ∷ 18446744073709551615 ∷ []) ∷
    []) ≡ true ∷ false ∷ false ∷ false ∷ false ∷ [])
    × (map (λ ns. counted free (counts_from ns)) ((2000001 ∷ 1000001 ∷ 600000 ∷ 0 ∷ 400000 ∷ []) ∷ (3 ∷ 2 ∷ 1 ∷ 5 ∷ 1 ∷ []) ∷ []) ≡ true ∷ false ∷ [])
unfolding counted every
limits_of_m = (refl, refl)

-- `aag 2000001 2000001 0 0 0` and no line: 5, and without limits 8, for the line that is missing
pub large_text : map (λ lim. reason (read_aag lim true (bytes "aag 2000001 2000001 0 0 0\n"))) (limited ∷ free ∷ []) ≡ 5 ∷ 8 ∷ []
unfolding read_aag good_text every number_of counted without_liveness symbols_of symbol_of latch_numbered gate_numbered well_numbered literal ordered
large_text = refl

-- `aag 0 0 0 1 0 1 1 0 0`: an output, a bad and a constraint; where M = 0 the literals are 0 and 1
abbrev pub constants : Bytes
constants = bytes "aag 0 0 0 1 0 1 1 0 0\n"

-- `0`, `1`, `0`; then 2, and then `01`, as the output, the bad, the constraint; a line less
pub constant-literals : witnesses (after constants (
    bytes "0\n1\n0\n" ∷ bytes "2\n0\n0\n" ∷ bytes "0\n2\n0\n" ∷ bytes "0\n0\n2\n" ∷
    bytes "01\n0\n0\n" ∷ bytes "0\n01\n0\n" ∷ bytes "0\n0\n01\n" ∷ bytes "0\n0\n" ∷
    [])) ≡ 0 ∷ 11 ∷ 11 ∷ 11 ∷ 8 ∷ 8 ∷ 8 ∷ 8 ∷ []
unfolding read_aag good_text every number_of counted without_liveness symbols_of symbol_of latch_numbered gate_numbered well_numbered literal ordered
constant-literals = refl

-- ---- latches and gates

-- `aag 1 0 1 0 0`, `2 `
abbrev pub latch_head : Bytes
latch_head = bytes "aag 1 0 1 0 0\n2 "

-- next `3`; resets `1`, `2`, `3`, which is 2M + 1, not `4`; next not `4`. 8: a fourth field, no next, an unreadable reset
pub latch_lines_lem : witnesses (after latch_head (
    bytes "3\n" ∷ bytes "2 1\n" ∷ bytes "2 2\n" ∷ bytes "2 3\n" ∷ bytes "2 4\n" ∷ bytes "4\n" ∷ bytes "4 0\n" ∷
    bytes "2 0 0\n" ∷ bytes "\n" ∷ bytes "2 x\n" ∷ bytes "2 01\n" ∷
    [])) ≡ 0 ∷ 0 ∷ 0 ∷ 0 ∷ 11 ∷ 11 ∷ 11 ∷ 8 ∷ 8 ∷ 8 ∷ 8 ∷ []
unfolding read_aag good_text every number_of counted without_liveness symbols_of symbol_of latch_numbered gate_numbered well_numbered literal ordered
latch_lines_lem = refl

-- `aag 2 1 0 0 1`, `2`
abbrev pub gate_head : Bytes
gate_head = bytes "aag 2 1 0 0 1\n2\n"

-- `4 2 3`, `4 0 1`. Not the gate's own variable (`4`, `5`) on the left or right, nor one above. Gate 4 is due: not `5`, `6` or `2`. 8: two fields, four, `02`
pub gate_lines_lem : witnesses (after gate_head (
    bytes "4 2 3\n" ∷ bytes "4 0 1\n" ∷ bytes "4 4 2\n" ∷ bytes "4 2 4\n" ∷
    bytes "4 5 2\n" ∷ bytes "4 2 5\n" ∷ bytes "4 6 2\n" ∷ bytes "5 2 2\n" ∷
    bytes "6 2 2\n" ∷ bytes "2 0 0\n" ∷ bytes "4 2\n" ∷ bytes "4 2 2 2\n" ∷
    bytes "4 02 2\n" ∷
    [])) ≡ 0 ∷ 0 ∷ 11 ∷ 11 ∷ 11 ∷ 11 ∷ 11 ∷ 11 ∷ 11 ∷ 11 ∷ 8 ∷ 8 ∷ 8 ∷ []
unfolding read_aag good_text every number_of counted without_liveness symbols_of symbol_of latch_numbered gate_numbered well_numbered literal ordered
gate_lines_lem = refl

-- `aag 3 2 1 0 0`, `2`, `4`, `6 2`; inputs turned round; an input twice; an odd one; 0; the latch first; latch 8; `02`; `+02`.
-- `aag 2 0 0 0 2`, `2 0 0`, `4 2 1`; gates turned round
pub numbering : witnesses (after word (
    bytes "3 2 1 0 0\n2\n4\n6 2\n" ∷
    bytes "3 2 1 0 0\n4\n2\n6 2\n" ∷
    bytes "3 2 1 0 0\n2\n2\n6 2\n" ∷
    bytes "3 2 1 0 0\n3\n4\n6 2\n" ∷
    bytes "3 2 1 0 0\n0\n4\n6 2\n" ∷
    bytes "3 2 1 0 0\n4\n6\n2 2\n" ∷
    bytes "3 2 1 0 0\n2\n4\n8 2\n" ∷
    bytes "3 2 1 0 0\n02\n4\n6 2\n" ∷
    bytes "3 2 1 0 0\n+02\n4\n6 2\n" ∷
    bytes "2 0 0 0 2\n2 0 0\n4 2 1\n" ∷
    bytes "2 0 0 0 2\n4 0 0\n2 0 1\n" ∷
    [])) ≡ 0 ∷ 11 ∷ 11 ∷ 11 ∷ 11 ∷ 11 ∷ 11 ∷ 8 ∷ 0 ∷ 0 ∷ 11 ∷ []
unfolding read_aag good_text every number_of counted without_liveness symbols_of symbol_of latch_numbered gate_numbered well_numbered literal ordered
numbering = refl
