-- How many literals lists and their clauses have.
use Prim.Native.Nat.{ℕ, ◌+◌, ◌≤◌}
use mathlib.Core.Bool.{Bool, true, false, cond}
use mathlib.Core.List.{List, [], ◌∷◌, ◌++◌, map}
use mathlib.Core.Path.{◌≡◌}
use native.Mathlib.Omega.{arith}
use lib.ListN.{length, length-append, length-map}
use Rattle.lists.specs.Sets.{set_of}
use Rattle.lists.specs.Words.{words_of}
use Rattle.lists.proofs.SetLaws.{set-short}
use Rattle.lists.proofs.WordLaws.{words_append}
use Rattle.cnf.specs.Clauses.{Clause, literals_of}
use Rattle.cnf.specs.Simplified.{cnf_word, without_false, dropped, simplified}
use Rattle.cnf.proofs.SignLaws.{length_without}

-- all literals of some lists
abbrev pub total : List (List ℕ) → ℕ
total ls = length (words_of (λ l. l) ls)

pub total_append : (ls ms : List (List ℕ)) → total (ls ++ ms) ≡ total ls + total ms
total_append ls ms = rw (words_append (λ l. l) ls ms) (length-append (words_of (λ l. l) ls) (words_of (λ l. l) ms))

pub total_more : (l : List ℕ) (ls : List (List ℕ)) → total (l ∷ ls) ≡ length l + total ls
total_more l ls = length-append l (words_of (λ l. l) ls)

-- ---- a clause has no more literals than its list

kept_one : (l : List ℕ) → length (literals_of (simplified l)) ≤ length l
unfolding simplified
kept_one l = go (dropped l)
  where
    clause : Clause
    clause = set_of (map cnf_word (without_false l))

    go : (b : Bool) → length (literals_of (cond b [] (clause ∷ []))) ≤ length l
    go true = omega arith
    go false =
        rw (length-append clause [])
        (omega (arith, set-short (map cnf_word (without_false l)), length-map (without_false l) cnf_word, length_without l))

clause_one : (l : List ℕ) → length (simplified l) ≤ 1
unfolding simplified
clause_one l = go (dropped l)
  where
    go : (b : Bool) → length (cond b [] (set_of (map cnf_word (without_false l)) ∷ [])) ≤ 1
    go true = omega arith
    go false = omega arith

-- no more clauses than lists
pub clauses-few : (ls : List (List ℕ)) → length (words_of simplified ls) ≤ length ls
clauses-few [] = omega arith
clauses-few (l ∷ ls) = rw (length-append (simplified l) (words_of simplified ls)) (omega (arith, clause_one l, clauses-few ls))

pub kept-few : (ls : List (List ℕ)) → length (literals_of (words_of simplified ls)) ≤ total ls
kept-few [] = omega arith
kept-few (l ∷ ls) =
    rw (words_append (λ c. c) (simplified l) (words_of simplified ls), length-append (literals_of (simplified l)) (literals_of (words_of simplified ls)), total_more l ls)
    (omega (arith, kept_one l, kept-few ls))
