-- Worked examples of the witness reader, on short texts: symbols and comments, each reason, and which of two comes first.
use mathlib.Core.List.{[], ◌∷◌, ◌++◌, map}
use mathlib.Core.Path.{◌≡◌, refl}
use Rattle.lists.specs.Quoted.{bytes}
use Rattle.lists.specs.Answer.{got, refused}
use Rattle.lists.specs.Parts.{Bytes}
use Rattle.lists.specs.Tests.{every}
use Rattle.text.specs.Numbers.{number_of}
use Rattle.text.specs.Texts.{good_text}
use Rattle.aiger.specs.Defined.{literal, ordered}
use Rattle.witness_text.specs.Header.{counts_from, counted, without_liveness}
use Rattle.witness_text.specs.Symbols.{symbol_of}
use Rattle.witness_text.specs.declared.Kind.TheVariants.{Input, Latch, Output, Bad, Constraint}
use Rattle.witness_read.specs.Names.{symbols_of}
use Rattle.witness_read.specs.Order.{latch_numbered, gate_numbered, well_numbered}
use Rattle.witness_read.specs.Reading.{read_aag}
use Rattle.witness_read.proofs.Examples.{witnesses, both, after, word}

-- ---- symbols

-- I = 2, L = 12, O = 6, B = 8, C = 4: `i0 a`, `l11 a b`, `o+5  a` (the name begins with a space), `b7 ` (it is empty), `c3  ` (it is a space); `i2 `, `l12 `, `o6 `, `b8 `, `c4 `
pub parts : map (symbol_of (counts_from (14 ∷ 2 ∷ 12 ∷ 6 ∷ 0 ∷ 8 ∷ 4 ∷ []))) (
    bytes "i0 a" ∷ bytes "l11 a b" ∷ bytes "o+5  a" ∷ bytes "b7 " ∷ bytes "c3  " ∷ bytes "i2 " ∷
    bytes "l12 " ∷ bytes "o6 " ∷ bytes "b8 " ∷ bytes "c4 " ∷
    []) ≡ got (record { kind = Input; index = 0; name = bytes "a" }) ∷ got (record { kind = Latch; index = 11; name = bytes "a b" }) ∷ got (record { kind = Output; index = 5; name = bytes " a" })
    ∷ got (record { kind = Bad; index = 7; name = [] }) ∷ got (record { kind = Constraint; index = 3; name = bytes " " })
    ∷ refused 9 ∷ refused 9 ∷ refused 9 ∷ refused 9 ∷ refused 9 ∷ []
unfolding symbol_of number_of
parts = refl

-- `aag 2 1 1 1 0 1 1`, `2`, `4 4`, `0`, `0`, `0`: one of each kind, no gate
abbrev pub each_one : Bytes
each_one = bytes "aag 2 1 1 1 0 1 1\n2\n4 4\n0\n0\n0\n"

-- nothing more; `i0 x`; `i0 `; all kinds, going on after `c0 x`; a second o, b and c name; one name for i and l; the name `MAPPING`.
-- R9.9: `i0 x` twice; `l0 x`, `l0 y`; with a symbol between; not in the comments
pub names : witnesses (after each_one (
    [] ∷ bytes "i0 x\n" ∷ bytes "i0 \n" ∷
    bytes "c0 x\ni0 x\nl0 x\no0 x\nb0 x\n" ∷
    bytes "o0 x\no0 y\n" ∷ bytes "b0 x\nb0 x\n" ∷ bytes "c0 x\nc0 y\n" ∷
    bytes "i0 x\nl0 x\n" ∷ bytes "i0 MAPPING\n" ∷
    bytes "i0 x\ni0 x\n" ∷ bytes "l0 x\nl0 y\n" ∷
    bytes "i0 x\nl0 x\ni0 y\n" ∷ bytes "i0 x\nc\ni0 x\n" ∷
    [])) ≡ 0 ∷ 0 ∷ 0 ∷ 0 ∷ 0 ∷ 0 ∷ 0 ∷ 0 ∷ 0 ∷ 9 ∷ 9 ∷ 9 ∷ 0 ∷ []
unfolding read_aag good_text every number_of counted without_liveness symbols_of symbol_of latch_numbered gate_numbered well_numbered literal ordered
names = refl

-- an empty line; a space; ` i0 x`; `i0`; `i x`; `i00 x`; `i0`, tab, `x`; `x0 x`; `j0 x`; `f0 x`; `I0 x`; `c `; `cc`; `c0 x`, `i1 x`
pub symbols-refused : witnesses (after each_one (
    bytes "\n" ∷ bytes " \n" ∷ bytes " i0 x\n" ∷ bytes "i0\n" ∷ bytes "i x\n" ∷ bytes "i00 x\n" ∷
    bytes "i0\tx\n" ∷ bytes "x0 x\n" ∷ bytes "j0 x\n" ∷ bytes "f0 x\n" ∷ bytes "I0 x\n" ∷
    bytes "c \n" ∷ bytes "cc\n" ∷ bytes "c0 x\ni1 x\n" ∷
    [])) ≡ 9 ∷ 9 ∷ 9 ∷ 9 ∷ 9 ∷ 9 ∷ 9 ∷ 9 ∷ 9 ∷ 9 ∷ 9 ∷ 9 ∷ 9 ∷ 9 ∷ []
unfolding read_aag good_text every number_of counted without_liveness symbols_of symbol_of latch_numbered gate_numbered well_numbered literal ordered
symbols-refused = refl

-- ---- comments

-- after the line `c`: nothing; an empty line; ` i0`, `c`, `i1 x`; `x MAPPING`; `MAPPINGS`; `MAPPIN`; `mapping`. 10 for a witness, fine for a model:
-- `MAPPING`; tab, `MAPPING x`; `INTERVENTION`; `x`, an empty line, `INTERVENTION 1`
pub comments : both (after (each_one ++ bytes "c\n") (
    [] ∷ bytes "\n" ∷ bytes " i0\nc\ni1 x\n" ∷ bytes "x MAPPING\n" ∷
    bytes "MAPPINGS\n" ∷ bytes "MAPPIN\n" ∷ bytes "mapping\n" ∷
    bytes "MAPPING\n" ∷ bytes "\tMAPPING x\n" ∷ bytes "INTERVENTION\n" ∷
    bytes "x\n\nINTERVENTION 1\n" ∷
    [])) ≡ (0 ∷ 0 ∷ 0 ∷ 0 ∷ 0 ∷ 0 ∷ 0 ∷ 10 ∷ 10 ∷ 10 ∷ 10 ∷ []) ∷ (0 ∷ 0 ∷ 0 ∷ 0 ∷ 0 ∷ 0 ∷ 0 ∷ 0 ∷ 0 ∷ 0 ∷ 0 ∷ []) ∷ []
unfolding read_aag good_text every number_of counted without_liveness symbols_of symbol_of latch_numbered gate_numbered well_numbered literal ordered
comments = refl

-- ---- which of two reasons comes first

-- R9.4: byte 10 alone. 3 before it: no byte; `x`; `x`, 13, 10; `x`, 128, 10.
-- `aag 0 0 0 0 0`, `c`, then byte 13 as a comment: 3; byte 127: fine; `aag 0 0 0 0 0` without a last byte 10: 3
pub three_four : both (
    bytes "\n" ∷ [] ∷ bytes "x" ∷ bytes "x\r\n" ∷ bytes "x\u{80}\n" ∷ bytes "aag 0 0 0 0 0\nc\n\r\n" ∷
    bytes "aag 0 0 0 0 0\nc\n\u{7f}\n" ∷ bytes "aag 0 0 0 0 0" ∷
    []) ≡ (4 ∷ 3 ∷ 3 ∷ 3 ∷ 3 ∷ 3 ∷ 0 ∷ 3 ∷ []) ∷ (4 ∷ 3 ∷ 3 ∷ 3 ∷ 3 ∷ 3 ∷ 0 ∷ 3 ∷ []) ∷ []
unfolding read_aag good_text every number_of counted without_liveness symbols_of symbol_of latch_numbered gate_numbered well_numbered literal ordered
three_four = refl

-- R9.5: `aag 1 0 0 0 0`. 4 before it: that with `x`; ten numbers; four numbers; `aag 18446744073709551616 0 0 0 0`
pub four_five : both (after word (
    bytes "1 0 0 0 0\n" ∷ bytes "1 0 0 0 0 x\n" ∷
    bytes "1 0 0 0 0 0 0 0 0 0\n" ∷ bytes "1 0 0 0\n" ∷
    bytes "18446744073709551616 0 0 0 0\n" ∷
    [])) ≡ (5 ∷ 4 ∷ 4 ∷ 4 ∷ 4 ∷ []) ∷ (5 ∷ 4 ∷ 4 ∷ 4 ∷ 4 ∷ []) ∷ []
unfolding read_aag good_text every number_of counted without_liveness symbols_of symbol_of latch_numbered gate_numbered well_numbered literal ordered
four_five = refl

-- R9.6: `aag 0 0 0 0 0 0 0 1`; `aag 0 0 0 0 0 0 0 0 1`. 5 before it: `aag 1 0 0 0 0 0 0 1 1`.
-- R9.8: a missing input, latch, output, bad, constraint, gate. 6 before it: `aag 1 1 0 0 0 0 0 1`; `aag 0 0 0 1 0 0 0 0 1`
pub five_six_eight : both (after word (
    bytes "0 0 0 0 0 0 0 1\n" ∷
    bytes "0 0 0 0 0 0 0 0 1\n" ∷
    bytes "1 0 0 0 0 0 0 1 1\n" ∷ bytes "1 1 0 0 0\n" ∷
    bytes "1 0 1 0 0\n" ∷ bytes "0 0 0 1 0\n" ∷ bytes "0 0 0 0 0 1\n" ∷
    bytes "0 0 0 0 0 0 1\n" ∷ bytes "1 0 0 0 1\n" ∷
    bytes "1 1 0 0 0 0 0 1\n" ∷
    bytes "0 0 0 1 0 0 0 0 1\n" ∷
    [])) ≡ (6 ∷ 6 ∷ 5 ∷ 8 ∷ 8 ∷ 8 ∷ 8 ∷ 8 ∷ 8 ∷ 6 ∷ 6 ∷ []) ∷ (6 ∷ 6 ∷ 5 ∷ 8 ∷ 8 ∷ 8 ∷ 8 ∷ 8 ∷ 8 ∷ 6 ∷ 6 ∷ []) ∷ []
unfolding read_aag good_text every number_of counted without_liveness symbols_of symbol_of latch_numbered gate_numbered well_numbered literal ordered
five_six_eight = refl

-- R10.7: 2^64 - 1 as A, with M = 0 and with that M: 5. As O, B, C: 8. As O, with J = 1: 6
pub huge : both (after word (
    bytes "0 0 0 0 18446744073709551615\n" ∷
    bytes "18446744073709551615 0 0 0 18446744073709551615\n" ∷
    bytes "0 0 0 18446744073709551615 0\n0\n" ∷
    bytes "0 0 0 0 0 18446744073709551615\n" ∷
    bytes "0 0 0 0 0 0 18446744073709551615\n" ∷
    bytes "0 0 0 18446744073709551615 0 0 0 1\n" ∷
    [])) ≡ (5 ∷ 5 ∷ 8 ∷ 8 ∷ 8 ∷ 6 ∷ []) ∷ (5 ∷ 5 ∷ 8 ∷ 8 ∷ 8 ∷ 6 ∷ []) ∷ []
unfolding read_aag good_text every number_of counted without_liveness symbols_of symbol_of latch_numbered gate_numbered well_numbered literal ordered
huge = refl

-- `aag 1 1 0 0 0`, `2`, then `x`: 9. 8 before it: `2 2` for the `2`; an empty line before it; `i0 x` where a gate is due.
-- 10, which a model never has: `c`, `MAPPING`; with `i0 a` ahead of them. 9 before it: `x` ahead of them; `i0 a`, `i0 b` ahead of them
pub eight_nine_ten : both (after word (
    bytes "1 1 0 0 0\n2\nx\n" ∷ bytes "1 1 0 0 0\n2 2\nx\n" ∷
    bytes "1 1 0 0 0\n\n2\n" ∷ bytes "1 0 0 0 1\ni0 x\n" ∷
    bytes "1 1 0 0 0\n2\nc\nMAPPING\n" ∷
    bytes "1 1 0 0 0\n2\ni0 a\nc\nMAPPING\n" ∷
    bytes "1 1 0 0 0\n2\nx\nc\nMAPPING\n" ∷
    bytes "1 1 0 0 0\n2\ni0 a\ni0 b\nc\nMAPPING\n" ∷
    [])) ≡ (9 ∷ 8 ∷ 8 ∷ 8 ∷ 10 ∷ 10 ∷ 9 ∷ 9 ∷ []) ∷ (9 ∷ 8 ∷ 8 ∷ 8 ∷ 0 ∷ 0 ∷ 9 ∷ 9 ∷ []) ∷ []
unfolding read_aag good_text every number_of counted without_liveness symbols_of symbol_of latch_numbered gate_numbered well_numbered literal ordered
eight_nine_ten = refl

-- R9.11: `aag 1 1 0 0 0`, `3`. Before it, though they stand later: 10 for `c`, `MAPPING`, where the text is a witness;
-- 9 for `x`, and for `i0 a` twice; 8 for `x` as a second input, and for none
pub before_eleven : both (after word (
    bytes "1 1 0 0 0\n3\n" ∷
    bytes "1 1 0 0 0\n3\nc\nMAPPING\n" ∷
    bytes "1 1 0 0 0\n3\nx\n" ∷
    bytes "1 1 0 0 0\n3\ni0 a\ni0 a\n" ∷
    bytes "2 2 0 0 0\n3\nx\n" ∷ bytes "2 2 0 0 0\n3\n" ∷
    [])) ≡ (11 ∷ 10 ∷ 9 ∷ 9 ∷ 8 ∷ 8 ∷ []) ∷ (11 ∷ 11 ∷ 9 ∷ 9 ∷ 8 ∷ 8 ∷ []) ∷ []
unfolding read_aag good_text every number_of counted without_liveness symbols_of symbol_of latch_numbered gate_numbered well_numbered literal ordered
before_eleven = refl
