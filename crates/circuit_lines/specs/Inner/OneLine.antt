-- For the contracts of functions that take the numbers of one line.
use Rattle.std.specs.Prelude.{ℕ, ◌≤◌, cond, List, ◌≡◌, leb, length, Option, Some, None}
use Rattle.lists.specs.Answer.{Answer, got, refused}
use Rattle.lists.specs.Parts.{front}

-- numbers that are at most n many
abbrev pub at_most : ℕ → Option (List ℕ) → Option (List ℕ)
at_most n None = None
at_most n (Some ns) = cond (leb (length ns) n) (Some ns) None

-- the numbers x are k many and stand in front of what was in o₀
pub record Stored (o₀ o : List ℕ) (x : Option (List ℕ)) (k : ℕ) : Type 0 where
  pub numbers : List ℕ
  pub are : x ≡ Some numbers
  pub count : k ≡ length numbers
  pub fits : k ≤ length o₀
  pub stand : o ≡ front o₀ numbers

-- the numbers were stored, or one is unreadable or there are more than o₀ is long
abbrev pub Stores : List ℕ → List ℕ → Option (List ℕ) → Option ℕ → Type 0
Stores o₀ o x (Some k) = Stored o₀ o x k
Stores o₀ o x None = at_most (length o₀) x ≡ None

-- what a line's answer in the code stands for: where it has none, the reason with the number k
abbrev pub answer_or : {A : Type 0} → ℕ → Option A → Answer A
answer_or k (Some x) = got x
answer_or k None = refused k
