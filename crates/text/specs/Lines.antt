-- The lines of a text (R2.1).
use Rattle.std.specs.Prelude.{ℕ, suc, min, List, [], ◌∷◌, cond, length, eqb}
use Rattle.lists.specs.Parts.{Bytes}
use Rattle.scan.specs.Spans.{span, in_line}

-- byte b in front of the first of some lines or fields
abbrev pub cons_head : ℕ → List Bytes → List Bytes
cons_head b [] = (b ∷ []) ∷ []
cons_head b (l ∷ ls) = (b ∷ l) ∷ ls

-- R2.1: the lines of a text, without the byte 10 that ends them; the last may have none, and nothing begins behind a last byte 10
abbrev pub lines_of : Bytes → List Bytes
lines_of [] = []
lines_of (b ∷ bs) = cond (eqb b 10) ([] ∷ lines_of bs) (cons_head b (lines_of bs))

-- R2.1: how many bytes the first line takes up, with the byte 10 that ends it; 0 where there is no line
abbrev pub line_size : Bytes → ℕ
line_size s = min (suc (span in_line s)) (length s)
