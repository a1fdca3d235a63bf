-- Worked examples of the definitions.
use mathlib.Core.List.{[], ◌∷◌, ◌++◌}
use mathlib.Core.Option.{some, none}
use mathlib.Core.Path.{◌≡◌, refl}
use Rattle.lists.specs.Quoted.{bytes}
use Rattle.text_decimal.specs.Decimal.{decimal}
use Rattle.compose_spec.specs.Numbering.{private_input}
use Rattle.compose_joint.specs.declared.Leaves.TheVariants.{Inputs, Latches}
use Rattle.compose_gather.specs.Inner.Names.{own_name}
use Rattle.compose_names.specs.Inner.Names.{name_for}
use Rattle.compose_names.specs.Inner.Symbols.{new_lines, next_after}

-- literal 6 of the model, whatever the witness calls it: `= 6`
pub shared-name : name_for Inputs 1 6 (some (bytes "x")) ≡ bytes "= 6"
unfolding decimal
shared-name = refl

-- a latch that only witness 1 has, which calls it `x`: `w1:x`
pub private_name_lem : name_for Latches 1 3 (some (bytes "x")) ≡ bytes "w1:x"
unfolding decimal
private_name_lem = refl

-- an input that only witness 0 has, without a name: `w0:private-input`
pub no_name : name_for Inputs 0 1 none ≡ bytes "w0:" ++ private_input
unfolding decimal
no_name = refl

-- two words of a name; an empty name is one, and two zeros say that there is none
pub name_two : own_name (bytes "i0 ab") 3 2 ≡ some (bytes "ab")
name_two = refl

pub name-empty : own_name (bytes "i0 ") 3 0 ≡ some []
name-empty = refl

pub name-none : own_name (bytes "i0 ") 0 0 ≡ none
name-none = refl

-- the variables 3, 3, 4, 3, of which the first is 3: the lines `i0 a` and `i1 b`
pub two_new :
    new_lines 105 3 3
    (record { number = 3; name = bytes "a" } ∷ record { number = 3; name = bytes "a" } ∷ record { number = 4; name = bytes "b" } ∷ record { number = 3; name = bytes "a" } ∷ [])
    ≡ bytes "i0 a" ∷ bytes "i1 b" ∷ []
unfolding decimal
two_new = refl

pub next_new : next_after 3 (record { number = 3; name = [] } ∷ record { number = 3; name = [] } ∷ record { number = 4; name = [] } ∷ []) ≡ 5
next_new = refl
