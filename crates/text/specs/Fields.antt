-- The fields of a line (R2.2).
use Rattle.std.specs.Prelude.{ℕ, List, [], ◌∷◌, Bool, cond, not, ◌&&◌, ◌||◌, leb, eqb}
use Rattle.lists.specs.Quoted.{bytes}
use Rattle.lists.specs.Parts.{Bytes}
use Rattle.scan.specs.Same.{same_bytes}
use Rattle.text.specs.Lines.{cons_head}

-- R2.2: a blank, which stands between fields: the bytes 9, 10, 11, 12, 13 and 32
abbrev pub is_blank : ℕ → Bool
is_blank b = leb 9 b && leb b 13 || eqb b 32

-- R2.2: a byte of a field: no blank
abbrev pub in_field : ℕ → Bool
in_field b = not (is_blank b)

-- byte b in front of some fields: a field of its own where the line ends or a blank follows, else the first byte of the next field
abbrev pub cons_field : ℕ → Bytes → List Bytes → List Bytes
cons_field b [] fs = (b ∷ []) ∷ fs
cons_field b (c ∷ cs) fs = cond (is_blank c) ((b ∷ []) ∷ fs) (cons_head b fs)

-- R2.2: the fields of a line. (Of a text with several lines they would be the fields of all, since byte 10 separates too.)
abbrev pub fields_of : Bytes → List Bytes
fields_of [] = []
fields_of (b ∷ bs) = cond (is_blank b) (fields_of bs) (cons_field b bs (fields_of bs))

-- the first of some fields; empty where there is none
abbrev pub head_of : List Bytes → Bytes
head_of [] = []
head_of (f ∷ fs) = f

-- R2.2: the first field of a line; empty where it has none
abbrev pub first_field : Bytes → Bytes
first_field l = head_of (fields_of l)

-- R4.3, R5.8: the header's word
abbrev pub aag : Bytes
aag = bytes "aag"

-- R4.3: a field is the header's word
abbrev pub is_header_word : Bytes → Bool
is_header_word f = same_bytes f aag

-- R9.4: a line's first field is the header's word
abbrev pub has_header_word : Bytes → Bool
has_header_word l = is_header_word (first_field l)
