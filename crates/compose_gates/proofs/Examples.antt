-- Worked examples of the definitions.
use mathlib.Core.List.{[], ◌∷◌}
use mathlib.Core.Path.{◌≡◌, refl}
use Rattle.std.specs.Prelude.{Some, None}
use Rattle.compose_spec.specs.Sharing.{unordered}
use Rattle.compose_spec.specs.Inner.Keys.{key_of}
use Rattle.compose_gates.specs.Inner.Linked.{shared_in, shared_answer}
use Rattle.compose_gates.specs.Inner.Latches.{met_in, defined_in, definitions_from, defined_answer}

-- the operands 6 and 4 in either order: 4 + 6 * 2 ^ 32
pub ordered : key_of (unordered 6 4) ≡ 25769803780
ordered = refl

pub in_order_lem : key_of (unordered 4 6) ≡ 25769803780
in_order_lem = refl

-- Two inputs of one witness, which are joint variables 1 and 2 and composed ones 1 and 2, and the gates (2, 4), (4, 2), (6, 1). The first two share variable 3;
-- the operand 1 of the third is true, but it stays a gate.
pub two_shared : (shared_in (2 ∷ 4 ∷ 4 ∷ 2 ∷ 6 ∷ 1 ∷ []) (0 ∷ 1 ∷ 2 ∷ []) 3 2).vars ≡ 0 ∷ 1 ∷ 2 ∷ 3 ∷ 3 ∷ 4 ∷ []
two_shared = refl

pub two_gates : shared_answer 2 (shared_in (2 ∷ 4 ∷ 4 ∷ 2 ∷ 6 ∷ 1 ∷ []) (0 ∷ 1 ∷ 2 ∷ []) 3 2) ≡ Some 2
two_gates = refl

-- 17: the second composed gate would be variable 2,000,001
pub too_many : shared_answer 1999999 (shared_in (2 ∷ 4 ∷ 4 ∷ 2 ∷ 6 ∷ 1 ∷ []) (0 ∷ 1 ∷ 2 ∷ []) 3 1999999) ≡ None
too_many = refl

-- three latches: the second is the first one again, with the composed variable 1, and the third is new
pub second-again : met_in 1 0 (1 ∷ 1 ∷ 2 ∷ []) ≡ 2
second-again = refl

-- joint variables 0 to 3 are the composed 0, 1, 1, 2; the latches have the next literals 2, 4, 7 and the reset 0
pub agreed : defined_answer 2 (defined_in (2 ∷ 0 ∷ 4 ∷ 0 ∷ 7 ∷ 0 ∷ []) (0 ∷ 1 ∷ 1 ∷ 2 ∷ []) 1) ≡ Some 2
agreed = refl

pub agreed_words : definitions_from 1 2 (defined_in (2 ∷ 0 ∷ 4 ∷ 0 ∷ 7 ∷ 0 ∷ []) (0 ∷ 1 ∷ 1 ∷ 2 ∷ []) 1) ≡ 2 ∷ 0 ∷ 5 ∷ 0 ∷ []
agreed_words = refl

-- 18: the second latch is the first one again, but has another next literal
pub differs : defined_answer 2 (defined_in (2 ∷ 0 ∷ 5 ∷ 0 ∷ 7 ∷ 0 ∷ []) (0 ∷ 1 ∷ 1 ∷ 2 ∷ []) 1) ≡ None
differs = refl
