-- A table of digits, for the contracts of inner functions.
use Rattle.std.specs.Prelude.{ℕ, zero, suc, ◌+◌, ◌/◌, ◌%◌, [], ◌∷◌}
use Rattle.lists.specs.Parts.{Bytes}

-- the two digits of each of n numbers, from t on
abbrev pub pairs_from : ℕ → ℕ → Bytes
pairs_from t zero = []
pairs_from t (suc n) = (48 + t / 10) ∷ (48 + t % 10) ∷ pairs_from (suc t) n

-- the digits of 0 to 99, two for each
unfoldable pub digit_pairs : Bytes
digit_pairs = pairs_from 0 100
