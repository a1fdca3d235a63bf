-- For the contracts of the functions that read names: the name that two words say.
use Rattle.std.specs.Prelude.{ℕ, ◌+◌, ◌≤◌, ◌<◌, cond, List, eqb, length, get_or, Option, Some, None}
use Rattle.std.proofs.Math.Option as math
use Rattle.lists.specs.Parts.{Bytes, part}

-- the name that two words say, where they are words of a name: where it begins in the text and how long it is; a name does not begin at place 0
abbrev pub own_name : Bytes → ℕ → ℕ → math.Option Bytes
own_name t start size = cond (eqb start 0) math.none (math.some (part t start (start + size)))

-- that of the two words at a place
abbrev pub name_at : Bytes → List ℕ → ℕ → math.Option Bytes
name_at t words at = own_name t (get_or words at 0) (get_or words (at + 1) 0)

-- the two words stand there, and say a part of the text
pub record NameWords (t : Bytes) (words : List ℕ) (at : ℕ) : Type 0 where
  pub there : at + 1 < length words
  pub within : get_or words at 0 + get_or words (at + 1) 0 ≤ length t

-- a name that is lent, as the definitions of R8 have it
abbrev pub name_of : Option Bytes → math.Option Bytes
name_of None = math.none
name_of (Some name) = math.some name
