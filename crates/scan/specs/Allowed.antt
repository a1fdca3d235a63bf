-- R9.3: which bytes a text may have, and how a witness ends. A test that holds means that the reason does not apply.
use Rattle.std.specs.Prelude.{ℕ, [], ◌∷◌, Bool, false, not, ◌&&◌, leb, eqb}
use Rattle.lists.specs.Parts.{Bytes}

-- R9.3: a byte that the transition reader takes: at most 127
abbrev pub is_ascii : ℕ → Bool
is_ascii b = leb b 127

-- R9.3: a byte that the witness reader takes: at most 127, and not 13
abbrev pub is_witness_byte : ℕ → Bool
is_witness_byte b = leb b 127 && not (eqb b 13)

-- R9.3: the last byte is 10; false of the empty text
abbrev pub ends_in10 : Bytes → Bool
ends_in10 [] = false
ends_in10 (b ∷ []) = eqb b 10
ends_in10 (b ∷ c ∷ bs) = ends_in10 (c ∷ bs)
