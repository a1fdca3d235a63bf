-- Laws of 15: whether the work words are enough.
use Rattle.std.specs.Prelude.{Some, is_some}
use Prim.Native.Nat.{ℕ, ◌+◌, ◌-◌, ◌*◌, ◌/◌, ◌≤◌}
use mathlib.Core.Bool.{Bool, true, false}
use mathlib.Core.Path.{◌≡◌, refl}
use native.Mathlib.Omega.{arith}
use borrow.Author.Tests.{ltb-true, ltb-false, le-leb, lt-leb}
use lib.Dec.{leb, ltb}
use Rattle.compose_gather.specs.Inner.Checking.{less}
use Rattle.compose.specs.Inner.Steps.{first_room}

-- so many words are enough exactly where that much of the room can be taken
pub room-enough : (words a : ℕ) → leb (16 * a + 1024) words ≡ is_some (less (first_room words) a)
room-enough words a = go (ltb words 1024) refl
  where
    go : (q : Bool) → ltb words 1024 ≡ q → leb (16 * a + 1024) words ≡ is_some (less (first_room words) a)
    go true e = rw (e, lt-leb (16 * a + 1024) words (omega (arith, ltb-true words 1024 e))) refl
    go false e = rw e (enough (ltb ((words - 1024) / 16) a) refl)
      where
        h : 1024 ≤ words
        h = ltb-false words 1024 e

        enough : (q : Bool) → ltb ((words - 1024) / 16) a ≡ q → leb (16 * a + 1024) words ≡ is_some (less (Some ((words - 1024) / 16)) a)
        enough true f = rw (f, lt-leb (16 * a + 1024) words (omega (arith, h, ltb-true ((words - 1024) / 16) a f))) refl
        enough false f = rw (f, le-leb (16 * a + 1024) words (omega (arith, h, ltb-false ((words - 1024) / 16) a f))) refl
