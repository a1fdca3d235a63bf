-- The digits of a number read back: R1 takes them, and they are plain bytes of one field of one line.
use Rattle.std.specs.Prelude.{Some}
use Prim.Native.Nat.{ℕ, zero, suc, ◌+◌, ◌/◌, ◌%◌, ◌^◌, ◌<◌}
use mathlib.Core.Path.{◌≡◌, sym, ap, ◌∙◌}
use mathlib.Core.Bool.{true}
use native.Mathlib.Omega.{arith}
use borrow.Author.Tests.{lt-ltb, le-leb, lt-leb, ne_eqb}
use Rattle.lists.specs.Tests.{all}
use Rattle.text.specs.declared.Reader.{Reader}
use Rattle.text.specs.declared.Reader.TheVariants.{Transition, Witness}
use Rattle.text.specs.Numbers.{is_digit, tenfold, digits_after, number_of}
use Rattle.scan.specs.Spans.{in_line}
use Rattle.text.specs.Fields.{in_field}
use Rattle.scan.specs.Allowed.{is_ascii, is_witness_byte}
use Rattle.text.specs.Texts.{good_bytes}
use Rattle.text.proofs.PlainLaws.{tenfold_snoc}
use Rattle.text.proofs.NumberLaws.{number_digits, number_of_zero}
use Rattle.text_decimal.specs.Decimal.{decimal}
use Rattle.text_decimal.proofs.DecimalLaws.{by_tens, decimal_one, decimal-more, decimal-all, decimal-zero, decimal-lead}

-- ---- which bytes

pub decimal-digits : (n : ℕ) → all is_digit (decimal n) ≡ true
decimal-digits = decimal-all is_digit (λ b h k. simp (le-leb 48 b h, le-leb b 57 k))

-- no blanks
pub decimal_in_field : (n : ℕ) → all in_field (decimal n) ≡ true
decimal_in_field = decimal-all in_field (λ b h k. simp (le-leb 9 b (omega arith), lt-leb b 13 (omega arith), ne_eqb b 32 (λ e. omega arith)))

-- no byte 10
pub decimal_in_line : (n : ℕ) → all in_line (decimal n) ≡ true
decimal_in_line = decimal-all in_line (λ b h k. simp (ne_eqb b 10 (λ e. omega arith)))

-- none above 127, and no byte 13
pub decimal_good_bytes : (reader : Reader) (n : ℕ) → good_bytes reader (decimal n) ≡ true
decimal_good_bytes Transition = decimal-all is_ascii (λ b h k. le-leb b 127 (omega arith))
decimal_good_bytes Witness = decimal-all is_witness_byte (λ b h k. simp (le-leb b 127 (omega arith), ne_eqb b 13 (λ e. omega arith)))

-- ---- the number that they write

pub decimal-value : (n : ℕ) → tenfold 0 (decimal n) ≡ n
decimal-value =
    by_tens
    (λ (n : ℕ). tenfold 0 (decimal n) ≡ n)
    (λ n h. rw (decimal_one n h) (omega arith))
    (λ n h l. rw (decimal-more n h, tenfold_snoc 0 (decimal (n / 10)) (48 + n % 10), l) (omega arith))

-- different numbers have different digits
pub decimal_injective : (m n : ℕ) → decimal m ≡ decimal n → m ≡ n
decimal_injective m n e = sym (decimal-value m) ∙ ap (tenfold 0) e ∙ decimal-value n

read_digits : (n : ℕ) → n < 2 ^ 64 → digits_after 0 (decimal n) ≡ Some n
read_digits n h = rw (decimal-digits n, decimal-value n, lt-ltb n (2 ^ 64) h)

-- both readers take the digits for the number
pub decimal_read : (reader : Reader) (n : ℕ) → n < 2 ^ 64 → number_of reader (decimal n) ≡ Some n
decimal_read reader zero h = rw decimal-zero (number_of_zero reader)
decimal_read reader (suc n) h =
    let r = decimal-lead (suc n) (omega arith) in
    ap (number_of reader) r.split
    ∙ number_digits reader r.first r.others r.above r.digit
    ∙ ap (digits_after 0) (sym r.split)
    ∙ read_digits (suc n) h
