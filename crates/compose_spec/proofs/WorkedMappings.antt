-- Worked examples of R8.2 to R8.4, R8.8 and R9.16: what inputs and latches map to, their numbers and their names. Each is computed.
use Prim.Native.Nat.{ℕ}
use mathlib.Core.List.{List, [], ◌∷◌, map}
use mathlib.Core.Option.{Option, some, none}
use mathlib.Core.Path.{◌≡◌, refl}
use Rattle.lists.specs.Quoted.{bytes}
use Rattle.lists.specs.Answer.{Answer, got, refused}
use Rattle.lists.specs.Parts.{Bytes}
use Rattle.text.specs.Numbers.{number_of}
use Rattle.aiger.specs.declared.Gate.{Gate}
use Rattle.aiger.specs.Gates.{gate_from}
use Rattle.text_decimal.specs.Decimal.{decimal}
use Rattle.witness_read.specs.Sections.{NamedLatch, Sections}
use Rattle.compose_spec.specs.Numbering.{private_input, private_latch, private_name}
use Rattle.compose_spec.specs.Composing.{compose}

-- sections: the names of inputs, latches, outputs, bads, constraints, gates
abbrev pub circuit : List (Option Bytes) → List NamedLatch → List ℕ → List ℕ → List ℕ → List Gate → Sections
circuit inputs latches outputs bads constraints gates =
    record { inputs = inputs; latches = latches; outputs = outputs; bads = bads; constraints = constraints; gates = gates }

abbrev pub latch : ℕ → ℕ → Option Bytes → NamedLatch
latch next reset name = record { next = next; reset = reset; name = name }

-- the number of the reason; 0 where there is an answer
abbrev pub reason : Answer Sections → ℕ
reason (got s) = 0
reason (refused n) = n

-- the names of the inputs of a composition
abbrev pub input_names : Answer Sections → List (Option Bytes)
input_names (got s) = s.inputs
input_names (refused n) = []

-- a model: inputs 2 and 4, latches 6 and 8, gate 10
abbrev pub model : Sections
model = circuit (none ∷ none ∷ []) (latch 6 0 none ∷ latch 8 0 none ∷ []) [] [] [] (gate_from 10 2 4 ∷ [])

-- ---- names

-- `= 2`
abbrev pub to2 : Option Bytes
to2 = some (bytes "= 2")

-- `= 4`
abbrev pub to4 : Option Bytes
to4 = some (bytes "= 4")

-- `= +04`
abbrev pub to_plus04 : Option Bytes
to_plus04 = some (bytes "= +04")

-- `= 6`
abbrev pub to6 : Option Bytes
to6 = some (bytes "= 6")

-- `= 8`
abbrev pub to8 : Option Bytes
to8 = some (bytes "= 8")

-- `x`
abbrev pub x : Option Bytes
x = some (bytes "x")

-- the empty name
abbrev pub empty : Option Bytes
empty = some []

-- `w0:x`
abbrev pub w0x : Option Bytes
w0x = some (bytes "w0:x")

-- `w1:x`
abbrev pub w1x : Option Bytes
w1x = some (bytes "w1:x")

-- `w0:`
abbrev pub w0empty : Option Bytes
w0empty = some (bytes "w0:")

-- `w0:private-input`
abbrev pub w0input : Option Bytes
w0input = some (bytes "w0:private-input")

-- `w1:private-input`
abbrev pub w1input : Option Bytes
w1input = some (bytes "w1:private-input")

-- `w0:private-latch`
abbrev pub w0latch : Option Bytes
w0latch = some (bytes "w0:private-latch")

-- `w1:private-latch`
abbrev pub w1latch : Option Bytes
w1latch = some (bytes "w1:private-latch")

-- ---- mapping, numbering and names

-- R8.3: by position, and what the model has no place for is private; an own name is lost on a shared one, kept on a private one
pub by_position_lem : compose model
    ((circuit (x ∷ x ∷ x ∷ none ∷ []) (latch 2 0 x ∷ latch 2 0 none ∷ latch 4 0 x ∷ latch 6 0 none ∷ []) (2 ∷ []) [] [] [])
    ∷ (circuit (none ∷ []) [] (2 ∷ []) [] [] []) ∷ [])
    ≡ got (circuit (to2 ∷ to4 ∷ w0x ∷ w0input ∷ []) (latch 2 0 to6 ∷ latch 2 0 to8 ∷ latch 4 0 w0x ∷ latch 6 0 w0latch ∷ []) [] (2 ∷ []) [] [])
unfolding compose number_of decimal
by_position_lem = refl

-- one decision for a whole witness: a latch name that begins with `= ` makes its inputs private, named or not; the other witness maps by position
pub one_decision : compose model
    ((circuit (none ∷ x ∷ []) (latch 2 0 to8 ∷ latch 4 1 none ∷ []) (2 ∷ []) [] [] [])
    ∷ (circuit (none ∷ none ∷ []) (latch 2 0 none ∷ []) (4 ∷ []) [] [] []) ∷ [])
    ≡ got (circuit (w0input ∷ w0x ∷ to2 ∷ to4 ∷ []) (latch 2 0 to8 ∷ latch 4 1 w0latch ∷ latch 6 0 to6 ∷ []) [] (2 ∷ 8 ∷ []) [] [])
unfolding compose number_of decimal
one_decision = refl

-- and an input name makes latches without such a name private
pub inputs_decide : compose model
    ((circuit (to4 ∷ []) (latch 2 0 none ∷ latch 3 0 x ∷ []) (2 ∷ []) [] [] [])
    ∷ (circuit (none ∷ []) (latch 2 0 none ∷ []) (2 ∷ []) [] [] []) ∷ [])
    ≡ got (circuit (to4 ∷ to2 ∷ []) (latch 2 0 w0latch ∷ latch 3 0 w0x ∷ latch 4 0 to6 ∷ []) [] (2 ∷ 4 ∷ []) [] [])
unfolding compose number_of decimal
inputs_decide = refl

-- two own inputs mapped to one model input are one variable; an input that is not mapped stays apart
pub two_onto_one : compose model
    ((circuit (to4 ∷ none ∷ to4 ∷ []) [] (2 ∷ 5 ∷ 6 ∷ []) [] [] [])
    ∷ (circuit (to_plus04 ∷ []) [] (3 ∷ []) [] [] []) ∷ [])
    ≡ got (circuit (to4 ∷ w0input ∷ []) [] [] (2 ∷ 3 ∷ 5 ∷ []) [] [])
unfolding compose number_of decimal
two_onto_one = refl

-- an empty name is a name: `private-input` only where there is none
pub empty_name : compose model
    ((circuit (empty ∷ to2 ∷ []) [] (2 ∷ []) [] [] [])
    ∷ (circuit (none ∷ []) [] (2 ∷ []) [] [] []) ∷ [])
    ≡ got (circuit (w0empty ∷ to2 ∷ []) [] [] (2 ∷ 4 ∷ []) [] [])
unfolding compose number_of decimal
empty_name = refl

-- R8.4: latches of witness 0 come after the inputs of witness 1; the first appearance numbers, not the model literal
pub first_appearance : compose model
    ((circuit (to4 ∷ []) (latch 2 0 to8 ∷ []) (4 ∷ []) [] [] [])
    ∷ (circuit (x ∷ to2 ∷ to4 ∷ []) (latch 2 0 x ∷ latch 4 0 to6 ∷ latch 6 0 to8 ∷ []) (8 ∷ 10 ∷ 12 ∷ []) [] [] []) ∷ [])
    ≡ got (circuit (to4 ∷ w1x ∷ to2 ∷ []) (latch 2 0 to8 ∷ latch 4 0 w1x ∷ latch 6 0 to6 ∷ []) [] (8 ∷ 10 ∷ 12 ∷ []) [] [])
unfolding compose number_of decimal
first_appearance = refl

-- private ones of equal name and place in two witnesses are two variables
pub private_apart : compose model
    ((circuit (x ∷ to2 ∷ []) [] (2 ∷ []) [] [] [])
    ∷ (circuit (x ∷ to2 ∷ []) [] (2 ∷ []) [] [] []) ∷ [])
    ≡ got (circuit (w0x ∷ to2 ∷ w1x ∷ []) [] [] (2 ∷ 6 ∷ []) [] [])
unfolding compose number_of decimal
private_apart = refl

-- ---- R9.16

-- the reason for a witness whose one input, or latch, has a name; the second witness maps by position
abbrev pub of_input : Bytes → ℕ
of_input name = reason (compose model (circuit (some name ∷ []) [] (2 ∷ []) [] [] [] ∷ circuit (none ∷ []) [] (2 ∷ []) [] [] [] ∷ []))

abbrev pub of_latch : Bytes → ℕ
of_latch name = reason (compose model (circuit [] (latch 2 0 (some name) ∷ []) (2 ∷ []) [] [] [] ∷ circuit (none ∷ []) [] (2 ∷ []) [] [] [] ∷ []))

-- `= 2`, `= 4`, `= +4`, `= +04` are readable and even inputs; `=2`, `=`, ` = 2`, `== 2` and the empty name are plain
pub good_inputs : map of_input
    (bytes "= 2"
    ∷ bytes "= 4"
    ∷ bytes "= +4"
    ∷ bytes "= +04"
    ∷ bytes "=2"
    ∷ bytes "="
    ∷ bytes " = 2"
    ∷ bytes "== 2"
    ∷ [] ∷ [])
    ≡ 0 ∷ 0 ∷ 0 ∷ 0 ∷ 0 ∷ 0 ∷ 0 ∷ 0 ∷ 0 ∷ []
unfolding compose number_of
good_inputs = refl

-- unreadable: `= `, `= 2 `, `=  2`, `= 04`, `= +`, `= ++2`, `= x`, `= -2`
pub unreadable_inputs : map of_input
    (bytes "= "
    ∷ bytes "= 2 "
    ∷ bytes "=  2"
    ∷ bytes "= 04"
    ∷ bytes "= +"
    ∷ bytes "= ++2"
    ∷ bytes "= x"
    ∷ bytes "= -2" ∷ [])
    ≡ 16 ∷ 16 ∷ 16 ∷ 16 ∷ 16 ∷ 16 ∷ 16 ∷ 16 ∷ []
unfolding compose number_of
unreadable_inputs = refl

-- 0; odd: 1, 3; a latch, a gate, absent: 6, 10, 12; 2^64 + 2 does not wrap to 2; 2^64 - 2
pub wrong_inputs : map of_input
    (bytes "= 0"
    ∷ bytes "= 1"
    ∷ bytes "= 3"
    ∷ bytes "= 6"
    ∷ bytes "= 10"
    ∷ bytes "= 12"
    ∷ bytes "= 18446744073709551618"
    ∷ bytes "= 18446744073709551614" ∷ [])
    ≡ 16 ∷ 16 ∷ 16 ∷ 16 ∷ 16 ∷ 16 ∷ 16 ∷ 16 ∷ []
unfolding compose number_of
wrong_inputs = refl

-- latches: `= 6`, `= 8`, `=4`; then another kind (`= 2`, `= 4`, `= 10`), odd, unreadable, absent
pub latch_names_lem : map of_latch
    (bytes "= 6"
    ∷ bytes "= 8"
    ∷ bytes "=4"
    ∷ bytes "= 2"
    ∷ bytes "= 4"
    ∷ bytes "= 10"
    ∷ bytes "= 7"
    ∷ bytes "= "
    ∷ bytes "= 12" ∷ [])
    ≡ 0 ∷ 0 ∷ 0 ∷ 16 ∷ 16 ∷ 16 ∷ 16 ∷ 16 ∷ 16 ∷ []
unfolding compose number_of
latch_names_lem = refl

-- ---- private names

-- R8.8: `w10:private-latch`, `w63:y`
pub private_names : private_name private_latch 10 none ∷ private_name private_input 63 (some (bytes "y")) ∷ []
    ≡ bytes "w10:private-latch" ∷ bytes "w63:y" ∷ []
unfolding decimal
private_names = refl
