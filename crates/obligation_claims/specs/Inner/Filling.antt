-- For the contracts of the functions that put keys in order and fill a clause's list.
use Rattle.std.specs.Prelude.{ℕ, ◌≤◌, ◌<◌, true, List, Option, Some, None, ◌≡◌, length, take}
use Rattle.lists.specs.Sets.{member}
use Rattle.word_sort.specs.Inner.Sorted.{sorted}
use Rattle.cnf.specs.Inner.Appending.{Filled}
use Rattle.obligation_claims.specs.Inner.Claims.{FewKeys}

-- the first n words are these keys, in order
pub record InOrder (keys : List ℕ) (n : ℕ) (words : List ℕ) : Type 0 where
  pub count : n ≡ length keys
  pub inside : n ≤ length words
  pub order : take n words ≡ sorted keys

-- what became of the literals of a clause: one of them is the true constant, or the list was filled
pub record Fills (ls : List ℕ) (r : Option ℕ) (list : List ℕ) : Type 0 where
  pub when_true : r ≡ None → member 1 ls ≡ true
  pub when_words : (n : ℕ) → r ≡ Some n → Filled ls list n

-- keys whose clauses can be made in a list of this length. One of at most three literals needs none.
pub record Fits (keys : List ℕ) (list : ℕ) : Type 0 where
  pub few_keys : FewKeys 1024 keys
  pub list_fits : 3 < length keys → length keys ≤ list
