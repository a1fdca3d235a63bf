-- Flat words read as pairs (offset, length) and as triples (a gate's or an outcome's three words), and the flat words of a list (R12).
use Rattle.std.specs.Prelude.{ℕ, ◌+◌, Bool, true, ◌&&◌, List, [], ◌∷◌, ◌++◌, leb}

module _ {A B : Type 0} where
  -- R12.2: two words each: `make` of the words 0 and 1, of 2 and 3, ..; a word that is left over at the end is not read
  abbrev pub pairs_of : (A → A → B) → List A → List B
  pairs_of make [] = []
  pairs_of make (x ∷ []) = []
  pairs_of make (x ∷ y ∷ ws) = make x y ∷ pairs_of make ws

  -- R12.4, R12.8: three words each; one or two words that are left over at the end are not read
  abbrev pub triples_of : (A → A → A → B) → List A → List B
  triples_of make [] = []
  triples_of make (x ∷ []) = []
  triples_of make (x ∷ y ∷ []) = []
  triples_of make (x ∷ y ∷ z ∷ ws) = make x y z ∷ triples_of make ws

  -- the words of each element, one after the other
  abbrev pub words_of : (B → List A) → List B → List A
  words_of words [] = []
  words_of words (b ∷ bs) = words b ++ words_of words bs

-- R9.2: each pair (offset, length) begins at `end`, where the last one ended, or later, and ends within `size`; half a pair is not read
abbrev pub in_order : ℕ → ℕ → List ℕ → Bool
in_order end size [] = true
in_order end size (offset ∷ []) = true
in_order end size (offset ∷ n ∷ pairs) = leb end offset && (leb (offset + n) size && in_order (offset + n) size pairs)

-- R9.13: the lengths of all pairs together
abbrev pub lengths : List ℕ → ℕ
lengths [] = 0
lengths (offset ∷ []) = 0
lengths (offset ∷ n ∷ pairs) = n + lengths pairs
