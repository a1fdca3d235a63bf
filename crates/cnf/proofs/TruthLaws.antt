-- Simplifying keeps the truth of a clause under every assignment: a dropped clause is always true.
use Prim.Native.Nat.{ℕ, suc, ◌-◌, ◌/◌, ◌%◌, ◌≤◌}
use mathlib.Core.Path.{◌≡◌, refl, sym, ap, ◌∙◌}
use mathlib.Core.Bool.{Bool, true, false, not, ◌||◌, ◌&&◌, cond, and-true}
use mathlib.Core.List.{List, [], ◌∷◌, ◌++◌, map}
use native.Mathlib.Omega.{arith}
use lib.Dec.{eqb}
use borrow.Author.Tests.{eqb-true}
use Rattle.lists.specs.Bits.{odd}
use Rattle.lists.specs.Tests.{all, any}
use Rattle.lists.specs.Sets.{member, set_of}
use Rattle.lists.specs.Words.{words_of}
use Rattle.lists.proofs.BoolLaws.{or_left}
use Rattle.lists.proofs.TestLaws.{all_append, any_cong, any-map, each-so, any-each}
use Rattle.lists.proofs.SetLaws.{any-set}
use Rattle.lists.proofs.AnyLaws.{any_found, any-member}
use Rattle.aiger.specs.Gates.{Valuation, value}
use Rattle.cnf.specs.Clauses.{Clause, Assignment, value_at, literal_true, satisfies, valuation_of}
use Rattle.cnf.specs.Simplified.{opposite, cnf_word, without_false, both_signs, dropped, simplified}
use Rattle.cnf.proofs.SignLaws.{odd_is, even_is, is_odd, is_even, opposite-is, word-is, both-any, Proper, proper_without, any_without}

module _ (v : Valuation) where
  pub value-odd : (l : ℕ) → l % 2 ≡ 1 → value v l ≡ not (v (l / 2))
  unfolding value
  value-odd l e = rw (is_odd l e)

  pub value_even : (l : ℕ) → l % 2 ≡ 0 → value v l ≡ v (l / 2)
  unfolding value
  value_even l e = rw (is_even l e)

  pub value-opposite : (l : ℕ) → value v (opposite l) ≡ not (value v l)
  value-opposite l = go (odd l) refl
    where
      go : (b : Bool) → odd l ≡ b → value v (opposite l) ≡ not (value v l)
      go true e =
          let n : l % 2 ≡ 1 = odd_is l e in
          let half : opposite l / 2 ≡ l / 2 = omega (arith, opposite-is l) in
          value_even (opposite l) (omega (arith, opposite-is l)) ∙ ap v half ∙ twice (v (l / 2)) ∙ ap not (sym (value-odd l n))
        where
          twice : (b : Bool) → b ≡ not (not b)
          twice true = refl
          twice false = refl
      go false e =
          let n : l % 2 ≡ 0 = even_is l e in
          let half : opposite l / 2 ≡ l / 2 = omega (arith, opposite-is l) in
          value-odd (opposite l) (omega (arith, opposite-is l)) ∙ rw half (ap not (sym (value_even l n)))

  module _ (c : v 0 ≡ false) where
    value-zero : value v 0 ≡ false
    value-zero = value_even 0 refl ∙ c

    value_one : value v 1 ≡ true
    value_one = value-odd 1 refl ∙ rw c

    -- R3.1: a clause that is dropped is true
    pub dropped-true : (ls : List ℕ) → dropped ls ≡ true → any (value v) ls ≡ true
    unfolding dropped
    dropped-true ls h = go (member 1 ls) refl h
      where
        both : (x : ℕ) (b : Bool) → value v x ≡ b → member x ls ≡ true → member (opposite x) ls ≡ true → any (value v) ls ≡ true
        both x true e m o = any-member (value v) x ls m e
        both x false e m o = any-member (value v) (opposite x) ls o (value-opposite x ∙ rw e)

        go : (b : Bool) → member 1 ls ≡ b → (b || both_signs ls) ≡ true → any (value v) ls ≡ true
        go true e h = any-member (value v) 1 ls e value_one
        go false e h = any_found (λ x. member (opposite x) ls) ls (sym (both-any ls) ∙ h) (λ x m o. both x (value v x) refl m o)

    -- R3.2: without its false constants a clause has the same value
    pub without_true : (ls : List ℕ) → any (value v) (without_false ls) ≡ any (value v) ls
    without_true ls = any_without (value v) ls ∙ any_cong (λ l. not (eqb l 0) && value v l) (value v) (λ l. same l (eqb l 0) refl) ls
      where
        same : (l : ℕ) (b : Bool) → eqb l 0 ≡ b → (not (eqb l 0) && value v l) ≡ value v l
        same l true e = rw e (sym (ap (value v) (eqb-true l 0 e) ∙ value-zero))
        same l false e = rw e

-- the word of a literal is true where the literal is
pub word-true : (a : Assignment) (l : ℕ) → 2 ≤ l → literal_true a (cnf_word l) ≡ value (valuation_of a) l
unfolding literal_true
word-true a l h = go (odd l) refl
  where
    at : valuation_of a (l / 2) ≡ value_at a (l / 2 - 1)
    at = let n : l / 2 ≡ suc (l / 2 - 1) = omega arith in ap (valuation_of a) n

    half : cnf_word l / 2 ≡ l / 2 - 1
    half = omega (arith, word-is l)

    go : (b : Bool) → odd l ≡ b → cond (odd (cnf_word l)) (value_at a (cnf_word l / 2)) (not (value_at a (cnf_word l / 2))) ≡ value (valuation_of a) l
    go true e =
        let n : l % 2 ≡ 1 = odd_is l e in
        rw (is_even (cnf_word l) (omega (arith, word-is l)), half) (ap not (sym at) ∙ sym (value-odd (valuation_of a) l n))
    go false e =
        let n : l % 2 ≡ 0 = even_is l e in
        rw (is_odd (cnf_word l) (omega (arith, word-is l)), half) (sym at ∙ sym (value_even (valuation_of a) l n))

words-true : (a : Assignment) (ls : List ℕ) → Proper ls → any (literal_true a) (map cnf_word ls) ≡ any (value (valuation_of a)) ls
words-true a ls p =
    any-map cnf_word (literal_true a) ls
    ∙ any-each (λ l. literal_true a (cnf_word l)) (value (valuation_of a)) ls
    (each-so (λ l. 2 ≤ l) (λ l. literal_true a (cnf_word l) ≡ value (valuation_of a) l) (λ l h. word-true a l h) ls p)

pub dropped_no_true : (ls : List ℕ) → dropped ls ≡ false → member 1 ls ≡ false
unfolding dropped
dropped_no_true ls h = or_left (member 1 ls) (both_signs ls) h

pub simplified-true : (a : Assignment) (ls : List ℕ) → satisfies a (simplified ls) ≡ any (value (valuation_of a)) ls
unfolding simplified satisfies
simplified-true a ls = go (dropped ls) refl
  where
    go : (b : Bool) → dropped ls ≡ b → all (any (literal_true a)) (cond b [] (set_of (map cnf_word (without_false ls)) ∷ [])) ≡ any (value (valuation_of a)) ls
    go true e = sym (dropped-true (valuation_of a) refl ls e)
    go false e =
        and-true (any (literal_true a) (set_of (map cnf_word (without_false ls))))
        ∙ any-set (literal_true a) (map cnf_word (without_false ls))
        ∙ words-true a (without_false ls) (proper_without ls (dropped_no_true ls e))
        ∙ without_true (valuation_of a) refl ls

pub satisfies_append : (a : Assignment) (cs ds : List Clause) → satisfies a (cs ++ ds) ≡ (satisfies a cs && satisfies a ds)
unfolding satisfies
satisfies_append a cs ds = all_append (any (literal_true a)) cs ds

satisfies-none : (a : Assignment) → satisfies a [] ≡ true
unfolding satisfies
satisfies-none a = refl

pub clauses-true : (a : Assignment) (lists : List (List ℕ)) → satisfies a (words_of simplified lists) ≡ all (any (value (valuation_of a))) lists
clauses-true a [] = satisfies-none a
clauses-true a (ls ∷ lists) = satisfies_append a (simplified ls) (words_of simplified lists) ∙ rw (simplified-true a ls, clauses-true a lists)
