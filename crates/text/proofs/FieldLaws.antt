-- Laws of `is_blank` and `fields_of`: the first field of a line and the line behind it, for the code that finds fields.
use Prim.Native.Nat.{ℕ, ◌-◌, ◌≤◌, ◌<◌}
use mathlib.Core.Path.{◌≡◌, refl, ap, sym, ◌∙◌}
use mathlib.Core.Bool.{and-false, or-false, or-true, ◌&&◌, Bool, true, false}
use mathlib.Core.List.{List, [], ◌∷◌, ◌++◌}
use native.Mathlib.Omega.{arith}
use native.Mathlib.Nat.{add-zero}
use borrow.Author.Tests.{le-leb, lt-leb, ne_eqb, not-true}
use lib.ListN.{length, get_or, take, drop, length-drop}
use lib.Seq.{get_or-drop}
use lib.Dec.{leb}
use Rattle.scan.specs.Spans.{span}
use Rattle.scan.proofs.SpanLaws.{span_outside, span-passes}
use Rattle.text.specs.Lines.{cons_head}
use Rattle.lists.specs.Parts.{Bytes}
use Rattle.lists.specs.Tests.{all}
use Rattle.lists.proofs.BoolLaws.{and_left, and_right}
use Rattle.lists.proofs.PartLaws.{tail-lent}
use Rattle.text.specs.Fields.{is_blank, in_field, fields_of, head_of, first_field}
use Rattle.text.specs.Inner.Fronts.{is_space, from_field, FieldTaken}

-- a byte's test: the blanks are 9 to 13 and 32
module _ (b : ℕ) where
  pub blank_above : 32 < b → false ≡ is_blank b
  blank_above h = simp (lt-leb b 13 (omega arith), ne_eqb b 32 (λ e. omega arith), and-false)

  pub blank_space : b ≡ 32 → true ≡ is_blank b
  blank_space h = rw h

  pub space-is_blank : b ≡ 32 → is_blank b ≡ true
  space-is_blank h = sym (blank_space h)

  pub blank_low : b < 9 → false ≡ is_blank b
  blank_low h = simp (lt-leb 9 b h, ne_eqb b 32 (λ e. omega arith))

  pub blank_rest : (b ≡ 32 → ⊥) → 9 ≤ b → leb b 13 ≡ is_blank b
  blank_rest n h = simp (le-leb 9 b h, ne_eqb b 32 n) (sym (or-false (leb b 13)))

-- ---- from_field: spaces first, and then all blanks

spaces_at : (b : ℕ) (bs : Bytes) → from_field (drop (span is_space bs) bs) ≡ from_field bs → (q : Bool) → is_space b ≡ q
    → from_field (drop (span is_space (b ∷ bs)) (b ∷ bs)) ≡ from_field (b ∷ bs)
spaces_at b bs ih true e = simp (e, or-true (leb 9 b && leb b 13)) ih
spaces_at b bs ih false e = simp e

spaces : (t : Bytes) → from_field (drop (span is_space t) t) ≡ from_field t
spaces [] = refl
spaces (b ∷ bs) = spaces_at b bs (spaces bs) (is_space b) refl

pub after-spaces : (l others : Bytes) (n m : ℕ) → n ≡ span is_space l → others ≡ take (length l - n) (drop n l) → m ≡ span is_blank others
    → take (length others - m) (drop m others) ≡ from_field l
after-spaces l others n m e o f =
    tail-lent others m ∙ ap (λ (k : ℕ). drop k others) f
    ∙ ap from_field (o ∙ tail-lent l n ∙ ap (λ (k : ℕ). drop k l) e) ∙ spaces l

-- ---- the fields of a line are its first field and those of the line behind it

skip_at : (b : ℕ) (bs : List ℕ) → fields_of bs ≡ fields_of (from_field bs) → (q : Bool) → is_blank b ≡ q
    → fields_of (b ∷ bs) ≡ fields_of (from_field (b ∷ bs))
skip_at b bs ih true e = simp e ih
skip_at b bs ih false e = simp e

skip : (t : List ℕ) → fields_of t ≡ fields_of (from_field t)
skip [] = refl
skip (b ∷ bs) = skip_at b bs (skip bs) (is_blank b) refl

Word : ℕ → List ℕ → Type 0
Word b bs = is_blank b ≡ false → fields_of (b ∷ bs) ≡ (b ∷ take (span in_field bs) bs) ∷ fields_of (drop (span in_field bs) bs)

word_at : (b c : ℕ) (cs : List ℕ) → Word c cs → (q : Bool) → is_blank c ≡ q → Word b (c ∷ cs)
unfolding Word
word_at b c cs ih true e h = simp (h, e)
word_at b c cs ih false e h = simp (h, e) (simp e at (ap (cons_head b) (ih e)))

word : (b : ℕ) (bs : List ℕ) → Word b bs
unfolding Word
word b [] h = simp h
word b (c ∷ cs) h = word_at b c cs (word c cs) (is_blank c) refl h

first : (t : List ℕ) → 0 < length t → is_blank (get_or t 0 0) ≡ false → fields_of t ≡ take (span in_field t) t ∷ fields_of (drop (span in_field t) t)
unfolding Word
first [] h e = absurd (omega arith)
first (b ∷ bs) h e = simp e (simp e at (word b bs e))

-- the first byte from a field on is none between fields
pub front-in_field : (l : Bytes) → 0 < length (from_field l) → is_blank (get_or (from_field l) 0 0) ≡ false
front-in_field l h = rw (get_or-drop, add-zero) (span_outside is_blank l (omega (arith, length-drop (span is_blank l) l)))

one_byte : (t : List ℕ) → 0 < length t → is_blank (get_or t 0 0) ≡ false → 0 < length (take (span in_field t) t)
one_byte [] h e = absurd (omega arith)
one_byte (b ∷ bs) h e = simp e (omega arith)

pub fields_none : (l : Bytes) → from_field l ≡ [] → fields_of l ≡ []
fields_none l e = skip l ∙ ap fields_of e

module _ (l f r : Bytes) (k : FieldTaken l f r) where
  pub fields_some : fields_of l ≡ f ∷ fields_of r
  fields_some = skip l ∙ rw (k.stands.field, k.stands.rest) (first (from_field l) k.some_byte (front-in_field l k.some_byte))

  -- a field has at least one byte, and no blank
  pub field-some_byte : 0 < length f
  field-some_byte = rw k.stands.field (one_byte (from_field l) k.some_byte (front-in_field l k.some_byte))

  pub field_unblank : all in_field f ≡ true
  field_unblank = rw k.stands.field (span-passes in_field (from_field l))

  pub first_some : f ≡ first_field l
  first_some = sym (ap head_of fields_some)

pub first-none : (l : Bytes) → from_field l ≡ [] → [] ≡ first_field l
first-none l e = sym (ap head_of (fields_none l e))

-- ---- a field in front of others, as lists

-- a field: at least one byte, no blank
pub record IsField (f : Bytes) : Type 0 where
  pub some_byte : f ≡ [] → ⊥
  pub unblank : all in_field f ≡ true

module _ (b : ℕ) (bs : Bytes) (h : all in_field (b ∷ bs) ≡ true) where
  first_unblank : is_blank b ≡ false
  first_unblank = not-true (is_blank b) (and_left (in_field b) (all in_field bs) h)

  others_unblank : all in_field bs ≡ true
  others_unblank = and_right (in_field b) (all in_field bs) h

field_then : (b : ℕ) (bs rest : Bytes) → all in_field (b ∷ bs) ≡ true → fields_of ((b ∷ bs) ++ 32 ∷ rest) ≡ (b ∷ bs) ∷ fields_of rest
field_then b [] rest h = rw (first_unblank b [] h)
field_then b (c ∷ cs) rest h =
    let o = others_unblank b (c ∷ cs) h in
    rw (first_unblank b (c ∷ cs) h, first_unblank c cs o) (rw (first_unblank c cs o) at (ap (cons_head b) (field_then c cs rest o)))

field_last : (b : ℕ) (bs : Bytes) → all in_field (b ∷ bs) ≡ true → fields_of (b ∷ bs) ≡ (b ∷ bs) ∷ []
field_last b [] h = rw (first_unblank b [] h)
field_last b (c ∷ cs) h =
    let o = others_unblank b (c ∷ cs) h in
    rw (first_unblank b (c ∷ cs) h, first_unblank c cs o) (rw (first_unblank c cs o) at (ap (cons_head b) (field_last c cs o)))

pub field_in_front : (f rest : Bytes) → IsField f → fields_of (f ++ 32 ∷ rest) ≡ f ∷ fields_of rest
field_in_front [] rest w = absurd (w.some_byte refl)
field_in_front (b ∷ bs) rest w = field_then b bs rest w.unblank

pub field-alone : (f : Bytes) → IsField f → fields_of f ≡ f ∷ []
field-alone [] w = absurd (w.some_byte refl)
field-alone (b ∷ bs) w = field_last b bs w.unblank
