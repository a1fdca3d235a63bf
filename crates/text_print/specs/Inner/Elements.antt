-- For the contracts of inner functions: the numbers that are in a set of bits.
use Rattle.std.specs.Prelude.{ℕ, zero, suc, ◌*◌, Bool, cond, List, [], ◌∷◌, length}
use Rattle.lists.specs.Sets.{holds}

-- those of the numbers from k on, n of them, that pass the test, ascending
abbrev pub passing : (ℕ → Bool) → ℕ → ℕ → List ℕ
passing test k zero = []
passing test k (suc n) = cond (test k) (k ∷ passing test (suc k) n) (passing test (suc k) n)

-- the numbers whose bits are set in the words, ascending
unfoldable pub elements : List ℕ → List ℕ
elements ws = passing (holds ws) 0 (64 * length ws)

-- those of word j, for the contract of an inner function
unfoldable pub elements_in : List ℕ → ℕ → List ℕ
elements_in ws j = passing (holds ws) (64 * j) 64
