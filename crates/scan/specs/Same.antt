-- Bytes held against a constant (R4.3, R12.10): the same bytes, and bytes that begin with it.
use Rattle.std.specs.Prelude.{[], ◌∷◌, Bool, true, false, ◌&&◌, eqb}
use Rattle.lists.specs.Parts.{Bytes}

-- R4.3, R12.10: the same bytes
abbrev pub same_bytes : Bytes → Bytes → Bool
same_bytes [] [] = true
same_bytes [] (y ∷ ys) = false
same_bytes (x ∷ xs) [] = false
same_bytes (x ∷ xs) (y ∷ ys) = eqb x y && same_bytes xs ys

-- R8.2, R12.10: s begins with the bytes of a word; every s begins with the empty one
abbrev pub begins_with : Bytes → Bytes → Bool
begins_with s [] = true
begins_with [] (y ∷ ys) = false
begins_with (x ∷ xs) (y ∷ ys) = eqb x y && begins_with xs ys
