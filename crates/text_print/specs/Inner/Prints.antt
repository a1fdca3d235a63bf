-- Bytes printed into a lent buffer, or only measured where it has no room: for the contracts of inner functions.
use Rattle.std.specs.Prelude.{ℕ, ◌+◌, ◌≤◌, min, ◌≡◌, length}
use Rattle.lists.specs.Parts.{Bytes, put}
use Rattle.text_print.specs.declared.Printer.{Printer}

-- a place in a text of any length, as a word: places from 2^64 - 1 on are that number
abbrev pub capped : ℕ → ℕ
capped n = min n 18446744073709551615

-- `bytes` are printed from place `at` on into o, which is then o'; r is the place after them. Where they do not fit, some may be written.
pub record Prints (o : Bytes) (at : ℕ) (bytes o' : Bytes) (r : ℕ) : Type 0 where
  pub next : r ≡ capped (at + length bytes)
  pub stands : at + length bytes ≤ length o → o' ≡ put o at bytes

-- a printer prints `bytes`, and keeps the buffer that it was lent; its place and that buffer's length are words
pub record PrintsOn (p : Printer) (bytes : Bytes) (p' : Printer) : Type 0 where
  pub same_buffer : p'.out.ghost_name ≡ p.out.ghost_name
  pub same_room : length p'.out.now ≡ length p.out.now
  pub prints : p.at ≤ 18446744073709551615 → length p.out.now ≤ 18446744073709551615 → Prints p.out.now p.at bytes p'.out.now p'.at

-- a printer passes over so many bytes, and writes none
pub record Passes (p : Printer) (size : ℕ) (p' : Printer) : Type 0 where
  pub same_buffer : p'.out.ghost_name ≡ p.out.ghost_name
  pub same_bytes : p'.out.now ≡ p.out.now
  pub next : p'.at ≡ capped (p.at + size)
