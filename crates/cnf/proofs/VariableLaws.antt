-- The variables of clauses: literals up to 2n + 1 give words below 2n, and n values are enough to tell the truth.
use Prim.Native.Nat.{ℕ, zero, suc, ◌+◌, ◌*◌, ◌/◌, ◌≤◌, ◌<◌}
use mathlib.Core.Path.{◌≡◌, refl, sym, ◌∙◌}
use mathlib.Core.Bool.{Bool, true, false, cond}
use mathlib.Core.List.{List, [], ◌∷◌, map}
use native.Mathlib.Omega.{arith}
use lib.ListN.{length}
use Rattle.lists.specs.Tests.{all, any, Each}
use Rattle.lists.specs.Words.{words_of}
use Rattle.lists.specs.Sets.{set_of}
use Rattle.lists.proofs.TestLaws.{each_map, each-so, each_with, any-each}
use Rattle.lists.proofs.SetLaws.{each_set}
use Rattle.lists.proofs.WordLaws.{each-words}
use Rattle.aiger.specs.Gates.{Valuation, value}
use Rattle.cnf.specs.Clauses.{Assignment, value_at, satisfies, valuation_of}
use Rattle.cnf.specs.Simplified.{cnf_word, without_false, dropped, simplified}
use Rattle.cnf.proofs.SignLaws.{word_number, proper_without, each_without}
use Rattle.cnf.proofs.TruthLaws.{dropped_no_true, clauses-true}

-- the literals are at most 2n + 1
abbrev pub UpTo : ℕ → List ℕ → Type 0
UpTo n ls = Each (λ l. l ≤ 2 * n + 1) ls

word_below : (n l : ℕ) → 2 ≤ l → l ≤ 2 * n + 1 → cnf_word l < 2 * n
word_below n l h k = omega (arith, word_number l h)

-- what holds of the word of each literal that is no constant holds of each word of the clause
pub each_word : (P : ℕ → Type 0) (ls : List ℕ) → Each (λ l. 2 ≤ l → P (cnf_word l)) ls → Each (λ c. Each P c) (simplified ls)
unfolding simplified
each_word P ls e = go (dropped ls) refl
  where
    go : (b : Bool) → dropped ls ≡ b → Each (λ c. Each P c) (cond b [] (set_of (map cnf_word (without_false ls)) ∷ []))
    go true d = tt
    go false d = (
      each_set P (map cnf_word (without_false ls))
          (each_map cnf_word P (without_false ls)
          (each_with (λ l. 2 ≤ l) (λ l. 2 ≤ l → P (cnf_word l)) (λ l. P (cnf_word l)) (λ l h f. f h) (without_false ls)
          (proper_without ls (dropped_no_true ls d))
          (each_without (λ l. 2 ≤ l → P (cnf_word l)) ls e))),
      tt,
    )

pub words-below : (n : ℕ) (ls : List ℕ) → UpTo n ls → Each (λ c. Each (λ w. w < 2 * n) c) (simplified ls)
words-below n ls e = each_word (λ w. w < 2 * n) ls (each-so (λ l. l ≤ 2 * n + 1) (λ l. 2 ≤ l → cnf_word l < 2 * n) (λ l h k. word_below n l k h) ls e)

pub clauses-below : (n : ℕ) (lists : List (List ℕ)) → Each (UpTo n) lists → Each (λ c. Each (λ w. w < 2 * n) c) (words_of simplified lists)
clauses-below n lists e =
    each-words simplified (λ c. Each (λ w. w < 2 * n) c) lists (each-so (UpTo n) (λ ls. Each (λ c. Each (λ w. w < 2 * n) c) (simplified ls)) (words-below n) lists e)

-- ---- the assignment made from values

-- the values v 1, .., v n as an assignment: those of the CNF variables 0, .., n - 1
abbrev pub assignment_of : ℕ → Valuation → Assignment
assignment_of zero v = []
assignment_of (suc n) v = v 1 ∷ assignment_of n (λ k. v (suc k))

pub assignment_length : (n : ℕ) (v : Valuation) → length (assignment_of n v) ≡ n
assignment_length zero v = refl
assignment_length (suc n) v = rw (assignment_length n (λ k. v (suc k)))

pub assignment_at : (n : ℕ) (v : Valuation) (k : ℕ) → k < n → value_at (assignment_of n v) k ≡ v (suc k)
assignment_at zero v k h = absurd (omega arith)
assignment_at (suc n) v zero h = refl
assignment_at (suc n) v (suc k) h = assignment_at n (λ j. v (suc j)) k (omega arith)

-- values that agree up to variable n give the same value to literals up to 2n + 1
pub value_same : (n : ℕ) (u v : Valuation) → ((k : ℕ) → k ≤ n → u k ≡ v k) → (l : ℕ) → l ≤ 2 * n + 1 → value u l ≡ value v l
unfolding value
value_same n u v e l h = rw (e (l / 2) (omega arith))

module _ (n : ℕ) (v : Valuation) (c : v 0 ≡ false) where
  pub assignment_back : (k : ℕ) → k ≤ n → valuation_of (assignment_of n v) k ≡ v k
  assignment_back zero h = sym c
  assignment_back (suc k) h = assignment_at n v k (omega arith)

  pub assignment_true : (lists : List (List ℕ)) → Each (UpTo n) lists → satisfies (assignment_of n v) (words_of simplified lists) ≡ all (any (value v)) lists
  assignment_true lists e = clauses-true (assignment_of n v) lists ∙ go lists e
    where
      go : (lists : List (List ℕ)) → Each (UpTo n) lists → all (any (value (valuation_of (assignment_of n v)))) lists ≡ all (any (value v)) lists
      go [] e = refl
      go (ls ∷ lists) e =
          rw (
            any-each (value (valuation_of (assignment_of n v))) (value v) ls
                (each-so (λ l. l ≤ 2 * n + 1) (λ l. value (valuation_of (assignment_of n v)) l ≡ value v l) (λ l h. value_same n (valuation_of (assignment_of n v)) v assignment_back l h) ls e.0),
            go lists e.1,
          )
