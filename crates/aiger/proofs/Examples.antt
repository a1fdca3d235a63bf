-- Worked examples of the definitions, around each limit. M is 3: literals are at most 7.
use mathlib.Core.Bool.{true, false}
use mathlib.Core.List.{[], ◌∷◌}
use mathlib.Core.Path.{◌≡◌, refl}
use lib.Dec.{eqb}
use Rattle.lists.specs.Tests.{every}
use Rattle.aiger.specs.Gates.{gate_from, gate_words, Valuation, value, Follows}
use Rattle.aiger.specs.Defined.{literal, defining, ordered, defined}

-- R5.5: 2M + 1 is the last literal, also where M is 0
pub literals : (literal 3 0 ≡ true) × (literal 3 6 ≡ true) × (literal 3 7 ≡ true) × (literal 3 8 ≡ false) × (literal 0 1 ≡ true) × (literal 0 2 ≡ false)
unfolding literal
literals = (refl, refl, refl, refl, refl, refl)

-- R5.4: 2 and 6 may define; not 0, 1, 3, nor 7, which is in range; not 8
pub definings :
    (defining 3 0 ≡ false) × (defining 3 1 ≡ false) × (defining 3 2 ≡ true) × (defining 3 3 ≡ false) × (defining 3 6 ≡ true) × (defining 3 7 ≡ false)
    × (defining 3 8 ≡ false)
unfolding every literal defining
definings = (refl, refl, refl, refl, refl, refl, refl)

-- R5.5: constants, equal and negated operands are taken; the gate itself, negated or not, and larger ones are not
pub orderings :
    (ordered (gate_from 6 0 1) ≡ true)
    × (ordered (gate_from 6 4 4) ≡ true)
    × (ordered (gate_from 6 5 4) ≡ true)
    × (ordered (gate_from 6 5 6) ≡ false)
    × (ordered (gate_from 6 6 5) ≡ false)
    × (ordered (gate_from 6 7 2) ≡ false)
    × (ordered (gate_from 6 2 8) ≡ false)
    × (ordered (gate_from 2 0 1) ≡ true)
    × (ordered (gate_from 2 2 0) ≡ false)
    × (ordered (gate_from 7 6 2) ≡ false)
    × (ordered (gate_from 7 2 6) ≡ false)
unfolding every ordered
orderings = (refl, refl, refl, refl, refl, refl, refl, refl, refl, refl, refl)

-- R5.4: definitions in any order are taken; two leaves, a leaf and a gate, or two gates of one variable are not
pub once_each :
    (defined 3 (2 ∷ 4 ∷ []) (gate_from 6 4 2 ∷ []) ≡ true)
    × (defined 3 (6 ∷ 2 ∷ []) (gate_from 4 2 2 ∷ []) ≡ true)
    × (defined 3 (2 ∷ []) (gate_from 6 4 4 ∷ gate_from 4 2 2 ∷ []) ≡ true)
    × (defined 3 (2 ∷ 2 ∷ []) (gate_from 6 2 2 ∷ []) ≡ false)
    × (defined 3 (2 ∷ 4 ∷ []) (gate_from 4 2 2 ∷ []) ≡ false)
    × (defined 3 (2 ∷ []) (gate_from 4 2 2 ∷ gate_from 4 2 3 ∷ []) ≡ false)
    × (defined 3 (2 ∷ 5 ∷ []) (gate_from 6 2 2 ∷ []) ≡ false)
    × (defined 3 (2 ∷ 8 ∷ []) (gate_from 6 2 2 ∷ []) ≡ false)
    × (defined 3 (2 ∷ 4 ∷ []) (gate_from 8 4 2 ∷ []) ≡ false)
    × (defined 0 [] [] ≡ true)
unfolding every literal defining ordered defined
once_each = (refl, refl, refl, refl, refl, refl, refl, refl, refl, refl)

-- 2 and 3 are one variable, so that not both may stand; 3 defines none anyway
pub both-signs : defined 3 (2 ∷ 3 ∷ []) (gate_from 6 2 2 ∷ []) ≡ false
unfolding every literal defining ordered defined
both-signs = refl

-- R0.6: the constants, and a literal that is negated, which has not its variable's value: here only variable 2 is true
abbrev pub only_two : Valuation
only_two n = eqb n 2

pub values : (value only_two 0 ≡ false) × (value only_two 1 ≡ true) × (value only_two 2 ≡ false) × (value only_two 3 ≡ true) × (value only_two 4 ≡ true) × (value only_two 5 ≡ false)
unfolding value
values = (refl, refl, refl, refl, refl, refl)

-- a gate of two equal operands has their value, one of a literal and its negation is false, one of two true operands is true
pub follows : Follows (gate_from 6 2 4 ∷ gate_from 8 4 5 ∷ gate_from 4 3 1 ∷ []) only_two
unfolding value
follows = record { constant = refl; conjunctions = (refl, (refl, (refl, tt))) }

-- R12.4: output, left, right
pub words : (gate_from 6 4 2 ≡ record { output = 6; left = 4; right = 2 }) × (gate_words (gate_from 6 4 2) ≡ 6 ∷ 4 ∷ 2 ∷ [])
words = (refl, refl)
