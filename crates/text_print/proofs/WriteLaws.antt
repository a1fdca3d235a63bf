-- Digits, fields and lines written where there is room for them.
use Prim.Native.Nat.{ℕ, ◌+◌, ◌-◌, ◌*◌, ◌/◌, ◌%◌, ◌≤◌, ◌<◌}
use mathlib.Core.Path.{◌≡◌, refl, sym, ap, ◌∙◌}
use mathlib.Core.List.{[], ◌∷◌, ◌++◌, append_assoc}
use native.Mathlib.Omega.{arith}
use borrow.Rule.Slice.PartMut.{put_mid}
use lib.ListN.{length, set, length-append}
use Rattle.lists.specs.Parts.{Bytes, put}
use Rattle.lists.proofs.PartLaws.{put-put, put-length}
use Rattle.text_decimal.specs.Decimal.{decimal}
use Rattle.text_decimal.specs.Printed.{number_line}
use Rattle.text_print.specs.declared.Printer.{Printer}
use Rattle.text_print.specs.Inner.Prints.{capped, PrintsOn, Passes}
use Rattle.text_decimal.proofs.WritingLaws.{part-written, Writing, writing-none, writing_more}

-- ---- digits, two at a time

last_of : (q t : ℕ) → t < 10 → (10 * q + t) % 10 ≡ t
last_of q t h = omega arith

pub digits_none : (o : Bytes) (n : ℕ) → length o ≡ length (decimal n) → Writing o 0 n o (length o) n
digits_none o n e = writing-none o 0 n (length o) e (omega arith)

module _ (o₀ : Bytes) (n : ℕ) (o : Bytes) (left rest : ℕ) (w : Writing o₀ 0 n o left rest) where
  pub writing_two : (two a b : ℕ) → 2 ≤ left → two ≡ rest % 100 → a ≡ 48 + two % 10 → b ≡ 48 + two / 10
      → Writing o₀ 0 n (set (set o (left - 1) a) (left - 2) b) (left - 2) (rest / 100)
  writing_two two a b h e f g =
      let low : rest % 100 % 10 ≡ rest % 10 = omega arith in
      let tens : rest / 10 ≡ 10 * (rest / 100) + rest % 100 / 10 = omega arith in
      let high : rest % 100 / 10 ≡ rest / 10 % 10 = sym (ap (λ (k : ℕ). k % 10) tens ∙ last_of (rest / 100) (rest % 100 / 10) (omega arith)) in
      let less : rest / 100 ≡ rest / 10 / 10 = omega arith in
      let last : Bytes = set o (left - 1) (48 + rest % 10) in
      rw (f, g, e, low, high, less)
      (writing_more o₀ 0 n last (left - 1) (rest / 10) (writing_more o₀ 0 n o left rest w (omega arith) (left - 1) (omega arith) (left - 1) refl) (omega arith)
      (left - 2) (omega arith) (left - 2) (omega arith))

-- ---- fields

-- ---- lines

field-length : (digits : Bytes) (end : ℕ) → length (digits ++ (end ∷ [])) ≡ length digits + 1
field-length digits end = length-append digits (end ∷ [])

-- the fields of a line of three numbers, each with the byte behind it
three_fields : (a b c : Bytes) → (a ++ (32 ∷ [])) ++ ((b ++ (32 ∷ [])) ++ (c ++ (10 ∷ []))) ≡ (a ++ 32 ∷ (b ++ 32 ∷ c)) ++ (10 ∷ [])
three_fields a b c = simp append_assoc

module _ (x y z first second third : ℕ) (n : first ≡ length (decimal x)) (m : second ≡ length (decimal y)) (k : third ≡ length (decimal z)) where
  abbrev a : Bytes
  a = decimal x ++ (32 ∷ [])

  abbrev b : Bytes
  b = decimal y ++ (32 ∷ [])

  abbrev c : Bytes
  c = decimal z ++ (10 ∷ [])

  pub three_length : first + second + third + 3 ≡ length (number_line (x ∷ y ∷ z ∷ []) ++ (10 ∷ []))
  three_length =
      omega
      (arith, ap length (three_fields (decimal x) (decimal y) (decimal z)), length-append a (b ++ c), length-append b c, field-length (decimal x) 32, field-length (decimal y) 32, field-length (decimal z) 10)

  pub three_put : (o b₁ b₂ b₃ : Bytes) (at : ℕ) → at + (first + second + third + 3) ≤ length o → b₁ ≡ a → b₂ ≡ b → b₃ ≡ c → (middle last end : ℕ) → middle ≡ at + (first + 1) → last ≡ middle + (second + 1)
      → end ≡ last + (third + 1)
      → put_mid last (end - last) (put_mid middle (last - middle) (put_mid at (middle - at) o b₁) b₂) b₃ ≡ put o at (number_line (x ∷ y ∷ z ∷ []) ++ (10 ∷ []))
  three_put o b₁ b₂ b₃ at h e f g middle last end s t u =
      let p : first + 1 ≡ length a = omega (arith, field-length (decimal x) 32) in
      let q : second + 1 ≡ length b = omega (arith, field-length (decimal y) 32) in
      let r : third + 1 ≡ length c = omega (arith, field-length (decimal z) 10) in
      let one : put_mid at (middle - at) o b₁ ≡ put o at a = part-written o at middle a b₁ e (omega arith) (omega arith) in
      let size : length (put o at a) ≡ length o = put-length o at a (omega arith) in
      let behind : middle ≡ at + length a = omega arith in
      let two : put_mid middle (last - middle) (put o at a) b₂ ≡ put o at (a ++ b) =
      part-written (put o at a) middle last b b₂ f (omega arith) (omega arith) ∙ rw behind (put-put o at a (omega arith) b) in
      let size₂ : length (put o at (a ++ b)) ≡ length o = put-length o at (a ++ b) (omega (arith, length-append a b)) in
      let behind₂ : last ≡ at + length (a ++ b) = omega (arith, length-append a b) in
      let three : put_mid last (end - last) (put o at (a ++ b)) b₃ ≡ put o at ((a ++ b) ++ c) =
      part-written (put o at (a ++ b)) last end c b₃ g (omega arith) (omega arith) ∙ rw behind₂ (put-put o at (a ++ b) (omega (arith, length-append a b)) c) in
      ap (λ (w : Bytes). put_mid last (end - last) (put_mid middle (last - middle) w b₂) b₃) one
      ∙ ap (λ (w : Bytes). put_mid last (end - last) w b₃) two
      ∙ three
      ∙ ap (put o at) (append_assoc a b c ∙ three_fields (decimal x) (decimal y) (decimal z))

-- ---- a printer that has passed over a text's place, and has the text written there
pub passed_put : (p : Printer) (bytes : Bytes) (size : ℕ) (p₁ p' : Printer) → Passes p size p₁ → size ≡ length bytes → p.at + size ≤ length p.out.now → p'.out.ghost_name ≡ p₁.out.ghost_name → p'.at ≡ p₁.at
    → (start : ℕ) → start ≡ p.at → p'.out.now ≡ put p₁.out.now start bytes → PrintsOn p bytes p'
passed_put p bytes size p₁ p' q n room name place start s e =
    let l : length p₁.out.now ≡ length p.out.now = ap length q.same_bytes in
    record {
      same_buffer = name ∙ q.same_buffer;
      same_room = ap length e ∙ put-length p₁.out.now start bytes (omega arith) ∙ l;
      prints =
          λ h k.
          record {
            next = place ∙ q.next ∙ ap (λ (j : ℕ). capped (p.at + j)) n;
            stands = λ j. e ∙ ap (λ (o : Bytes). put o start bytes) q.same_bytes ∙ ap (λ (i : ℕ). put p.out.now i bytes) s;
          };
    }
