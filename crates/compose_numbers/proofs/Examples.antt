-- Worked examples of the definitions.
use mathlib.Core.List.{[], ◌∷◌}
use mathlib.Core.Path.{◌≡◌, refl}
use Rattle.lists.specs.Sets.{set_of}
use Rattle.std.specs.Prelude.{Some, None}
use Rattle.compose_joint.specs.Inner.Numbers.{number_all}
use Rattle.compose_numbers.specs.Inner.Marked.{known, known_one, composed_in}

-- Origin words of four leaves: the model's variable 4, a private one, 4 again, 3. The model has two variables in front of those two.
pub numbers : (number_all 2 1 (8 ∷ 1 ∷ 8 ∷ 6 ∷ []) (0 ∷ 0 ∷ [])).numbers ≡ 1 ∷ 2 ∷ 1 ∷ 3 ∷ []
numbers = refl

pub assigned-after : (number_all 2 1 (8 ∷ 1 ∷ 8 ∷ 6 ∷ []) (0 ∷ 0 ∷ [])).assigned ≡ 3 ∷ 1 ∷ []
assigned-after = refl

pub next-number : (number_all 2 1 (8 ∷ 1 ∷ 8 ∷ 6 ∷ []) (0 ∷ 0 ∷ [])).next ≡ 4
next-number = refl

-- one leaf: its assigned number is 0, so the number 5 is stored there
pub first_time : known_one 2 8 5 (7 ∷ 0 ∷ []) ≡ known (7 ∷ 5 ∷ []) None
first_time = refl

pub again : known_one 2 8 5 (7 ∷ 3 ∷ []) ≡ known (7 ∷ 3 ∷ []) (Some 3)
again = refl

-- joint variables 0 to 3 are the composed 0, 1, 1, 2; the literals 2, 4 and 7 become 2, 2 and 5
pub literals : set_of (composed_in (2 ∷ 7 ∷ 4 ∷ []) (0 ∷ 1 ∷ 1 ∷ 2 ∷ [])) ≡ 2 ∷ 5 ∷ []
literals = refl
