-- Bytes written into a lent buffer, where they fit.
use Rattle.std.specs.Prelude.{ℕ, ◌+◌, ◌≤◌, cond, ◌≡◌, leb, length, Option, Some, None}
use Rattle.lists.specs.Parts.{Bytes, put}

-- what writing bytes from a place on into a buffer of `room` bytes answers: the place after them, where they fit (else R9.20)
unfoldable pub written_at : ℕ → ℕ → Bytes → Option ℕ
written_at room at bytes = cond (leb (at + length bytes) room) (Some (at + length bytes)) None

-- R10.4: the buffer afterwards: the bytes in their place and the others kept; where the bytes do not fit, all kept
unfoldable pub written : Bytes → ℕ → Bytes → Bytes
written o at bytes = cond (leb (at + length bytes) (length o)) (put o at bytes) o

-- the bytes fit, stand in their place, and `next` is the place after them
pub record Wrote (o : Bytes) (at : ℕ) (bytes o' : Bytes) (next : ℕ) : Type 0 where
  pub after : next ≡ at + length bytes
  pub fits : next ≤ length o
  pub is : o' ≡ put o at bytes
