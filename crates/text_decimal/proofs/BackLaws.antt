-- Printed fields, numbers and lines read back: R1 and R2 find what was printed.
use Rattle.std.specs.Prelude.{Some}
use Prim.Native.Nat.{ℕ, ◌^◌, ◌<◌}
use mathlib.Core.Path.{◌≡◌, refl, ap, ◌∙◌}
use mathlib.Core.Bool.{Bool, true}
use mathlib.Core.List.{List, [], ◌∷◌, ◌++◌, map}
use Rattle.lists.specs.Parts.{Bytes}
use Rattle.lists.specs.Tests.{all, Each}
use Rattle.lists.proofs.TestLaws.{all_append}
use Rattle.scan.specs.Spans.{in_line}
use Rattle.scan.specs.Allowed.{ends_in10}
use Rattle.text.specs.declared.Reader.{Reader}
use Rattle.text.specs.Lines.{lines_of}
use Rattle.text.specs.Fields.{fields_of}
use Rattle.text.specs.Literals.{numbers_of}
use Rattle.text.proofs.FieldLaws.{IsField, field_in_front, field-alone}
use Rattle.text.proofs.LineLaws.{line_in_front}
use Rattle.text_decimal.specs.Decimal.{decimal}
use Rattle.text_decimal.specs.Printed.{spaced, number_line, text_of}
use Rattle.text_decimal.proofs.DecimalLaws.{decimal-not-empty}
use Rattle.text_decimal.proofs.ReadLaws.{decimal_in_field, decimal_read}

-- ---- fields

pub fields_back : (fs : List Bytes) → Each IsField fs → fields_of (spaced fs) ≡ fs
fields_back [] e = refl
fields_back (f ∷ []) e = field-alone f e.0
fields_back (f ∷ g ∷ fs) e = field_in_front f (spaced (g ∷ fs)) e.0 ∙ ap (λ (x : List Bytes). f ∷ x) (fields_back (g ∷ fs) e.1)

-- ---- numbers

pub decimal-field : (n : ℕ) → IsField (decimal n)
decimal-field n = record { some_byte = decimal-not-empty n; unblank = decimal_in_field n }

all_fields : (ns : List ℕ) → Each IsField (map decimal ns)
all_fields [] = tt
all_fields (n ∷ ns) = (decimal-field n, all_fields ns)

numbers-back : (reader : Reader) (ns : List ℕ) → Each (λ n. n < 2 ^ 64) ns → numbers_of reader (map decimal ns) ≡ Some ns
numbers-back reader [] e = refl
numbers-back reader (n ∷ ns) e = rw (decimal_read reader n e.0, numbers-back reader ns e.1)

-- both readers find the numbers of a printed line
pub number-line-back : (reader : Reader) (ns : List ℕ) → Each (λ n. n < 2 ^ 64) ns → numbers_of reader (fields_of (number_line ns)) ≡ Some ns
number-line-back reader ns e = ap (numbers_of reader) (fields_back (map decimal ns) (all_fields ns)) ∙ numbers-back reader ns e

-- ---- lines

pub lines-back : (ls : List Bytes) → Each (λ l. all in_line l ≡ true) ls → lines_of (text_of ls) ≡ ls
lines-back [] e = refl
lines-back (l ∷ ls) e = line_in_front l (text_of ls) e.0 ∙ ap (λ (x : List Bytes). l ∷ x) (lines-back ls e.1)

-- a test that bytes 32 and 10 pass is passed by what is printed, where the fields and lines pass it
module _ (p : ℕ → Bool) where
  pub spaced-all : p 32 ≡ true → (fs : List Bytes) → Each (λ f. all p f ≡ true) fs → all p (spaced fs) ≡ true
  spaced-all s [] e = refl
  spaced-all s (f ∷ []) e = e.0
  spaced-all s (f ∷ g ∷ fs) e = all_append p f (32 ∷ spaced (g ∷ fs)) ∙ rw (e.0, s, spaced-all s (g ∷ fs) e.1)

  pub text_all : p 10 ≡ true → (ls : List Bytes) → Each (λ l. all p l ≡ true) ls → all p (text_of ls) ≡ true
  text_all s [] e = refl
  text_all s (l ∷ ls) e = all_append p l (10 ∷ text_of ls) ∙ rw (e.0, s, text_all s ls e.1)

-- ---- the end: a printed text of at least one line ends in byte 10

ends-behind : (l : Bytes) (b : ℕ) (t : Bytes) → ends_in10 (b ∷ t) ≡ true → ends_in10 (l ++ b ∷ t) ≡ true
ends-behind [] b t h = h
ends-behind (x ∷ []) b t h = h
ends-behind (x ∷ y ∷ l) b t h = ends-behind (y ∷ l) b t h

tail-ends : (ls : List Bytes) → ends_in10 (10 ∷ text_of ls) ≡ true
tail-ends [] = refl
tail-ends (l ∷ ls) = ends-behind (10 ∷ l) 10 (text_of ls) (tail-ends ls)

pub text_ends : (l : Bytes) (ls : List Bytes) → ends_in10 (text_of (l ∷ ls)) ≡ true
text_ends l ls = ends-behind l 10 (text_of ls) (tail-ends ls)
