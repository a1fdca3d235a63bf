-- Texts in definitions and worked examples.
use Rattle.std.specs.Prelude.{ℕ, List, [], ◌∷◌}
use Prim.Native.Char.{code}
use Prim.Native.String.{String, [] as end, ◌∷◌ as ◌and◌}

-- the bytes of a quoted text, one for each character
abbrev pub bytes : String → List ℕ
bytes end = []
bytes (c and s) = code c ∷ bytes s
