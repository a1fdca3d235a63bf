-- For the contracts of the functions that read plain digits, the fast way through most numbers.
use Rattle.std.specs.Prelude.{ℕ, Bool, ◌+◌, ◌^◌, ◌≤◌, ◌<◌, ◌≡◌, true, ◌∷◌, ◌++◌, eqb, length, take, drop, Option, Some, None}
use Rattle.lists.specs.Parts.{Bytes}
use Rattle.lists.specs.Tests.{all}
use Rattle.scan.specs.Spans.{span}
use Rattle.text.specs.declared.Reader.{Reader}
use Rattle.text.specs.declared.Parsed.{Parsed}
use Rattle.text.specs.Numbers.{is_digit, tenfold, number_of}
use Rattle.text.specs.Fields.{in_field}

-- the digit 0
abbrev pub is_zero : ℕ → Bool
is_zero b = eqb b 48

-- n bytes at the front are digits of one field, and they write v
pub record IsRun (l : Bytes) (n v : ℕ) : Type 0 where
  pub fits : n ≤ length l
  pub inside : span in_field l ≡ n + span in_field (drop n l)
  pub digits : all is_digit (take n l) ≡ true
  pub value : v ≡ tenfold 0 (take n l)
  pub small : v < 2 ^ 64

-- at the front of s stands a field of digits that writes v for both readers, then the byte stop, then r
pub record IsPlain (s : Bytes) (stop v : ℕ) (r : Bytes) : Type 0 where
  pub field : Bytes
  pub some_byte : 0 < length field
  pub digits : all is_digit field ≡ true
  pub stands : s ≡ field ++ stop ∷ r
  pub value : (reader : Reader) → number_of reader field ≡ Some v

-- so it is where a plain number was read; nothing is said where none was
abbrev pub ReadsPlain : Bytes → ℕ → Option (Parsed ℕ) → Type 0
ReadsPlain s stop (Some p) = IsPlain s stop p.value p.rest.now
ReadsPlain s stop None = Unit {0}
