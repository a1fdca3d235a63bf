-- What the inner functions of the row program promise.
use Rattle.std.specs.Prelude.{ℕ, Bool, not, List, ◌++◌, ◌≡◌, eqb, take, Option, Some, None}
use Rattle.lists.specs.Answer.{Answer, got, refused}
use Rattle.cnf.specs.Clauses.{Clause, literals_of, pairs_from}

-- a byte that is no space
abbrev pub in_piece : ℕ → Bool
in_piece b = not (eqb b 32)

-- what the answer and the lent words say together: the numbers of a line, or 14
abbrev pub answer_in : Option ℕ → List ℕ → Answer (List ℕ)
answer_in (Some n) words = got (take n words)
answer_in None words = refused 14

-- the pairs are those of the clauses, and the words begin with their literals
pub record Stands (cs : List Clause) (pairs words : List ℕ) : Type 0 where
  pub pairs-are : pairs ≡ pairs_from 0 cs
  pub other_words : List ℕ
  pub words_are : words ≡ literals_of cs ++ other_words
