-- Lines of plain numbers: what plain numbers that stand one after the other say of the lines and of `take_literal`.
use Rattle.std.specs.Prelude.{Some}
use Rattle.std.specs.Borrow.{Bor}
use Prim.Native.Nat.{ℕ, suc, ◌+◌, ◌≤◌}
use mathlib.Core.Path.{◌≡◌, refl, ap, sym, ◌∙◌}
use mathlib.Core.Bool.{Bool, true}
use mathlib.Core.List.{List, [], ◌∷◌, ◌++◌}
use native.Mathlib.Omega.{arith}
use borrow.Author.Tests.{leb-true}
use lib.Dec.{leb}
use lib.ListN.{length, drop}
use lib.Seq.{drop-drop, drop-append_seam}
use Rattle.lists.specs.Parts.{Bytes}
use Rattle.lists.specs.Tests.{all}
use Rattle.lists.proofs.BoolLaws.{and_left}
use Rattle.lists.proofs.TestLaws.{each_of_all, all_of_each, each-so}
use Rattle.lists.proofs.PartLaws.{drop_min}
use Rattle.scan.specs.Spans.{span, in_line}
use Rattle.scan.proofs.SpanLaws.{line-goes, span-front}
use Rattle.text.specs.declared.Reader.{Reader}
use Rattle.text.specs.Numbers.{is_digit}
use Rattle.text.specs.Lines.{lines_of, line_size}
use Rattle.text.specs.Fields.{in_field, fields_of}
use Rattle.text.specs.Literals.{numbers_of, one_of, first_literal}
use Rattle.text.specs.Inner.Fronts.{Behind, TakesLiteral}
use Rattle.text.specs.Inner.PlainDigits.{IsPlain}
use Rattle.text.proofs.FieldLaws.{IsField, field_in_front, field-alone, blank_above}
use Rattle.text.proofs.LineLaws.{line-front, line_in_front, behind_then}

-- ---- digits are bytes of one field of one line

module _ (b : ℕ) (h : is_digit b ≡ true) where
  low : 48 ≤ b
  low = leb-true 48 b (and_left (leb 48 b) (leb b 57) h)

  digit_in_field : in_field b ≡ true
  digit_in_field = rw (← blank_above b (omega (arith, low)))

  digit_in_line : in_line b ≡ true
  digit_in_line = line-goes b (λ e. omega (arith, low))

digits_pass : (p : ℕ → Bool) → ((b : ℕ) → is_digit b ≡ true → p b ≡ true) → (f : Bytes) → all is_digit f ≡ true → all p f ≡ true
digits_pass p h f d = all_of_each p f (each-so (λ b. is_digit b ≡ true) (λ b. p b ≡ true) h f (each_of_all is_digit f d))

module _ (s : Bytes) (stop v : ℕ) (r : Bytes) (k : IsPlain s stop v r) where
  plain-field : IsField k.field
  plain-field =
      record {
        some_byte = λ e. let z : length k.field ≡ 0 = ap length e in omega (arith, k.some_byte);
        unblank = digits_pass in_field digit_in_field k.field k.digits;
      }

  plain_in_line : all in_line k.field ≡ true
  plain_in_line = digits_pass in_line digit_in_line k.field k.digits

  plain-alone : (reader : Reader) → numbers_of reader (fields_of k.field) ≡ Some (v ∷ [])
  plain-alone reader = rw (field-alone k.field plain-field, k.value reader)

  behind : drop (suc (length k.field)) s ≡ r
  behind =
      let n : suc (length k.field) ≡ length k.field + 1 = omega arith in
      ap (λ (m : ℕ). drop m s) n ∙ sym (drop-drop 1 (length k.field) s)
      ∙ ap (drop 1) (ap (drop (length k.field)) k.stands ∙ drop-append_seam k.field (stop ∷ r))

  pub plain-behind : Behind s r
  plain-behind = record { size = suc (length k.field); is = sym behind }

-- ---- lines of plain numbers

-- at the front of s stands a line with the numbers vs for both readers, and the text r behind it
pub record PlainLine (s : Bytes) (vs : List ℕ) (r : Bytes) : Type 0 where
  pub line : Bytes
  pub lines : lines_of s ≡ line ∷ lines_of r
  pub numbers : (reader : Reader) → numbers_of reader (fields_of line) ≡ Some vs
  pub behind : Behind s r

module _ (s : Bytes) (v : ℕ) (r : Bytes) where
  pub plain_last : IsPlain s 10 v r → PlainLine s (v ∷ []) r
  plain_last k =
      record {
        line = k.field;
        lines = ap lines_of k.stands ∙ line_in_front k.field r (plain_in_line s 10 v r k);
        numbers = plain-alone s 10 v r k;
        behind = plain-behind s 10 v r k;
      }

  pub plain_more : IsPlain s 32 v r → (vs : List ℕ) (t : Bytes) → PlainLine r vs t → PlainLine s (v ∷ vs) t
  plain_more k vs t p =
      record {
        line = k.field ++ 32 ∷ p.line;
        lines =
            ap lines_of k.stands
            ∙ line-front k.field (32 ∷ r) (plain_in_line s 32 v r k) (32 ∷ p.line) (lines_of t) (rw p.lines);
        numbers = λ reader. rw (field_in_front k.field p.line (plain-field s 32 v r k), k.value reader, p.numbers reader);
        behind = behind_then s r t (plain-behind s 32 v r k) p.behind;
      }

-- ---- take_literal

module _ (s : Bytes) (v : ℕ) (r : Bytes) (k : IsPlain s 10 v r) where
  size : span in_line s ≡ length k.field
  size = ap (span in_line) k.stands ∙ span-front in_line k.field 10 r (plain_in_line s 10 v r k) refl

  is-rest : r ≡ drop (line_size s) s
  is-rest = sym (drop_min (suc (span in_line s)) s ∙ ap (λ (n : ℕ). drop (suc n) s) size ∙ behind s 10 v r k)

  is-literal : (reader : Reader) → Some v ≡ first_literal reader (lines_of s)
  is-literal reader =
      let p : PlainLine s (v ∷ []) r = plain_last s v r k in
      sym (ap (first_literal reader) p.lines ∙ ap one_of (p.numbers reader))

pub literal-plain : (reader : Reader) (s : Bytes) (v : ℕ) (r : Bor Bytes) → IsPlain s 10 v r.now → TakesLiteral reader s (record { value = Some v; rest = r })
literal-plain reader s v r k = record { value = is-literal s v r.now k reader; rest = is-rest s v r.now k }
