-- R10.1: an answer, or the number of the first reason for which there is none.
use Rattle.std.specs.Prelude.{ℕ, Bool, true, false}

-- R10.1, R10.3: a result, or the number of a reason and nothing else
pub data Answer (A : Type 0) : Type 0 where
  got : A → Answer A
  refused : ℕ → Answer A

module _ {A : Type 0} where
  -- R10.1: goes on where the test holds, else refuses with the reason n; a test says what is required, so n applies where it is false
  abbrev pub unless : ℕ → Bool → Answer A → Answer A
  unless n true r = r
  unless n false r = refused n

module _ {A B : Type 0} where
  -- R10.1: goes on with the answer, if there is one; an earlier reason stays
  abbrev pub and_then : Answer A → (A → Answer B) → Answer B
  and_then (got a) f = f a
  and_then (refused n) f = refused n
