-- Worked examples of the definitions: literals, gates and sections by both number rules.
use mathlib.Core.List.{[], ◌∷◌, map}
use mathlib.Core.Path.{◌≡◌, refl}
use Rattle.lists.specs.Quoted.{bytes}
use Rattle.lists.specs.Answer.{got, refused}
use Rattle.text.specs.declared.Reader.TheVariants.{Transition, Witness}
use Rattle.text.specs.Lines.{lines_of}
use Rattle.text.specs.Numbers.{number_of}
use Rattle.aiger.specs.Gates.{gate_from}
use Rattle.aiger.specs.Sections.{section}
use Rattle.circuit_lines.specs.SectionLines.{literal_line, gate_line}

-- `6 4 2`, with blanks around and byte 13 at its end too
pub gates-taken : map (gate_line Transition) (bytes "6 4 2" ∷ bytes " 6\t4  2\r" ∷ []) ≡ got (gate_from 6 4 2) ∷ got (gate_from 6 4 2) ∷ []
unfolding number_of
gates-taken = refl

-- `6 4`, `6 4 2 0`, `6 4 x`
pub gates-refused : map (gate_line Transition) (bytes "6 4" ∷ bytes "6 4 2 0" ∷ bytes "6 4 x" ∷ [])
    ≡ refused 8 ∷ refused 8 ∷ refused 8 ∷ []
unfolding number_of
gates-refused = refl

-- the empty line and `6` are no gates
pub gates-short : map (gate_line Transition) ([] ∷ bytes "6" ∷ []) ≡ refused 8 ∷ refused 8 ∷ []
unfolding number_of
gates-short = refl

-- a section of the two lines `2` and `4`, a line after it, and a line that is missing
pub section-taken : section (literal_line Transition) 2 (lines_of (bytes "2\n4\n6")) ≡ got (record { items = 2 ∷ 4 ∷ []; rest = (bytes "6") ∷ [] })
unfolding number_of
section-taken = refl

pub section_missing : section (literal_line Witness) 2 (lines_of (bytes "2\n")) ≡ refused 8
unfolding number_of
section_missing = refl

-- `07` and `+7` are 7; the empty line, `7 7` and `x` are refused
pub literals_read : map (literal_line Transition) (bytes "07" ∷ bytes "+7" ∷ [] ∷ bytes "7 7" ∷ bytes "x" ∷ []) ≡ got 7 ∷ got 7 ∷ refused 8 ∷ refused 8 ∷ refused 8 ∷ []
unfolding number_of
literals_read = refl

-- R1.3: the witness reader takes `+07`, as 7, and not `07`
pub literals-by-rule : map (literal_line Witness) (bytes "07" ∷ bytes "+07" ∷ bytes "0" ∷ []) ≡ refused 8 ∷ got 7 ∷ got 0 ∷ []
unfolding number_of
literals-by-rule = refl

-- `06 04 02`: zeros in front of numbers
pub gates-by-rule : (gate_line Transition (bytes "06 04 02") ≡ got (gate_from 6 4 2)) × (gate_line Witness (bytes "06 04 02") ≡ refused 8)
unfolding number_of
gates-by-rule = (refl, refl)
