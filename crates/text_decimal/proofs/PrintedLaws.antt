-- Laws of printed lines.
use mathlib.Core.Path.{◌≡◌, refl, sym}
use mathlib.Core.List.{List, [], ◌∷◌, ◌++◌, append_assoc}
use Rattle.lists.specs.Parts.{Bytes}
use Rattle.text_decimal.specs.Printed.{text_of}

-- the lines of one list after those of another
pub text_append : (ls ms : List Bytes) → text_of (ls ++ ms) ≡ text_of ls ++ text_of ms
text_append [] ms = refl
text_append (l ∷ ls) ms = rw (text_append ls ms) (sym (append_assoc l (10 ∷ text_of ls) (text_of ms)))
