-- How far a run of bytes goes, and a line (R2.1).
use Rattle.std.specs.Prelude.{ℕ, suc, [], ◌∷◌, Bool, cond, not, ◌&&◌, leb, eqb}
use Rattle.lists.specs.Parts.{Bytes}

-- how many bytes at the front pass the test
abbrev pub span : (ℕ → Bool) → Bytes → ℕ
span p [] = 0
span p (b ∷ bs) = cond (p b) (suc (span p bs)) 0

-- R2.1: a byte within a line: any but byte 10
abbrev pub in_line : ℕ → Bool
in_line b = not (eqb b 10)

-- the bytes from low to high
abbrev pub between : ℕ → ℕ → ℕ → Bool
between low high b = leb low b && leb b high
