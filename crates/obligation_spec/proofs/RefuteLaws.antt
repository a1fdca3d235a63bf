-- For tables: clauses of few variables are unsatisfiable where no assignment is found among all of them.
use Prim.Native.Nat.{ℕ, zero, suc}
use mathlib.Core.Bool.{Bool, true, false, not, ◌&&◌}
use mathlib.Core.List.{List, [], ◌∷◌}
use mathlib.Core.Path.{◌≡◌}
use native.Mathlib.Omega.{arith}
use borrow.Author.Tests.{not-true}
use lib.ListN.{length}
use Rattle.lists.proofs.BoolLaws.{true-false, and_left, and_right}
use Rattle.cnf.specs.Clauses.{Clause, Assignment, satisfies, Unsatisfiable}

-- no assignment of n values passes the test
abbrev pub none : ℕ → (Assignment → Bool) → Bool
none zero p = not (p [])
none (suc n) p = none n (λ a. p (true ∷ a)) && none n (λ a. p (false ∷ a))

none_passes : (n : ℕ) (p : Assignment → Bool) → none n p ≡ true → (a : Assignment) → length a ≡ n → p a ≡ true → ⊥
none_passes zero p h [] e k = true-false k (not-true (p []) h)
none_passes zero p h (b ∷ a) e k = absurd (omega arith)
none_passes (suc n) p h [] e k = absurd (omega arith)
none_passes (suc n) p h (true ∷ a) e k = none_passes n (λ a. p (true ∷ a)) (and_left (none n (λ a. p (true ∷ a))) (none n (λ a. p (false ∷ a))) h) a (omega arith) k
none_passes (suc n) p h (false ∷ a) e k = none_passes n (λ a. p (false ∷ a)) (and_right (none n (λ a. p (true ∷ a))) (none n (λ a. p (false ∷ a))) h) a (omega arith) k

pub refuted : (n : ℕ) (cs : List Clause) → none n (λ a. satisfies a cs) ≡ true → Unsatisfiable n cs
refuted n cs h = none_passes n (λ a. satisfies a cs) h
