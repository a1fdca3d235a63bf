-- Laws for the functions that append a predicate's clauses.
use Prim.Native.Nat.{ℕ, zero, suc, ◌/◌, ◌%◌, ◌≤◌, ◌<◌, ◌^◌}
use mathlib.Core.Bool.{Bool, true, false}
use mathlib.Core.List.{List, [], ◌∷◌, map}
use mathlib.Core.Path.{◌≡◌, refl, sym, ap, ◌∙◌}
use native.Mathlib.Omega.{arith}
use borrow.Author.Tests.{eqb-true, eq-eqb, ne_eqb}
use lib.Dec.{eqb}
use lib.ListN.{length, get_or, take, length-map}
use Rattle.lists.specs.Sets.{member}
use Rattle.lists.specs.Tests.{Each}
use Rattle.lists.proofs.TestLaws.{each_at, each_map, each-so}
use Rattle.cnf.specs.Simplified.{opposite, cnf_word, without_false}
use Rattle.cnf.specs.Inner.Appending.{Filled}
use Rattle.obligation_spec.specs.Lists.{predicate_literal}
use Rattle.obligation_gates.specs.Inner.Encoding.{Low, Clausal}

pub low-at : (ls : List ℕ) (k : ℕ) → Low ls → get_or ls k 0 < 2 ^ 31
low-at [] k e = omega arith
low-at (l ∷ ls) zero e = e.0
low-at (l ∷ ls) (suc k) e = low-at ls k e.1

pub low-literal : (ls : List ℕ) (k l : ℕ) → Low ls → l ≡ get_or ls k 0 → l < 2 ^ 32
low-literal ls k l e f = rw f (omega (arith, low-at ls k e))

-- how the code comes to the literal
pub indexed : (inputs relevant : List ℕ) (w a b literal : ℕ) → a ≡ get_or relevant (w / 2) 0 → b ≡ a → literal ≡ get_or inputs b 0 → literal ≡ get_or inputs (get_or relevant (w / 2) 0) 0
indexed inputs relevant w a b literal e f g = rw (← e, ← f) g

module _ (inputs relevant : List ℕ) (w literal : ℕ) (is : literal ≡ get_or inputs (get_or relevant (w / 2) 0) 0) where
  pub positive : w % 2 ≡ 1 → literal ≡ predicate_literal inputs relevant w
  positive h = rw (eq-eqb (w % 2) 1 h) is

  pub negative : (w % 2 ≡ 1 → ⊥) → (r : ℕ) → r ≡ opposite literal → r ≡ predicate_literal inputs relevant w
  negative h r e = rw (ne_eqb (w % 2) 1 h, ← is) e

pub opposite-some : (l : ℕ) → 2 ≤ l → 2 ≤ opposite l
opposite-some l h = go (eqb (l % 2) 1) refl
  where
    go : (b : Bool) → eqb (l % 2) 1 ≡ b → 2 ≤ opposite l
    go true e = rw e (let k : l % 2 ≡ 1 = eqb-true (l % 2) 1 e in omega arith)
    go false e = rw e (omega arith)

pub opposite-low : (l : ℕ) → l < 2 ^ 31 → opposite l < 2 ^ 32
opposite-low l h = go (eqb (l % 2) 1) refl
  where
    go : (b : Bool) → eqb (l % 2) 1 ≡ b → opposite l < 2 ^ 32
    go true e = rw e (omega arith)
    go false e = rw e (omega arith)

module _ (inputs relevant : List ℕ) where
  -- the word of a predicate's word
  abbrev pub coded : ℕ → ℕ
  coded w = cnf_word (predicate_literal inputs relevant w)

  module _ (clause : List ℕ) (c : Clausal inputs relevant clause) where
    input-some : (w : ℕ) → w / 2 < length relevant → 2 ≤ get_or inputs (get_or relevant (w / 2) 0) 0
    input-some w h = each_at (λ l. 2 ≤ l) inputs (get_or relevant (w / 2) 0) 0 c.variables (each_at (λ i. i < length inputs) relevant (w / 2) 0 c.among h)

    pub literal-some : (w : ℕ) → w / 2 < length relevant → 2 ≤ predicate_literal inputs relevant w
    literal-some w h = go (eqb (w % 2) 1) refl
      where
        go : (b : Bool) → eqb (w % 2) 1 ≡ b → 2 ≤ predicate_literal inputs relevant w
        go true e = rw e (input-some w h)
        go false e = rw e (opposite-some (get_or inputs (get_or relevant (w / 2) 0) 0) (input-some w h))

    pub literal-narrow : (w : ℕ) → predicate_literal inputs relevant w < 2 ^ 32
    literal-narrow w = go (eqb (w % 2) 1) refl
      where
        l : get_or inputs (get_or relevant (w / 2) 0) 0 < 2 ^ 31
        l = low-at inputs (get_or relevant (w / 2) 0) c.low

        go : (b : Bool) → eqb (w % 2) 1 ≡ b → predicate_literal inputs relevant w < 2 ^ 32
        go true e = rw e (omega (arith, l))
        go false e = rw e (opposite-low (get_or inputs (get_or relevant (w / 2) 0) 0) l)

    literals-some : Each (λ l. 2 ≤ l) (map (predicate_literal inputs relevant) clause)
    literals-some = each_map (predicate_literal inputs relevant) (λ l. 2 ≤ l) clause (each-so (λ w. w / 2 < length relevant) (λ w. 2 ≤ predicate_literal inputs relevant w) literal-some clause c.indexed)

    -- a list that has the words of the clause in front
    pub filled : (list : List ℕ) (n : ℕ) → take n list ≡ map coded clause → n ≡ length clause → Filled (map (predicate_literal inputs relevant) clause) list n
    filled list n k e =
        let ls : List ℕ = map (predicate_literal inputs relevant) clause in
        record {
          untrue = no_true ls literals-some;
          count = e ∙ sym (length-map clause (predicate_literal inputs relevant)) ∙ ap length (sym (no_false ls literals-some));
          words = k ∙ sym (map_twice clause) ∙ ap (map cnf_word) (sym (no_false ls literals-some));
        }
      where
        no_true : (ls : List ℕ) → Each (λ l. 2 ≤ l) ls → member 1 ls ≡ false
        no_true [] h = refl
        no_true (l ∷ ls) h = rw (ne_eqb 1 l (omega (arith, h.0))) (no_true ls h.1)

        no_false : (ls : List ℕ) → Each (λ l. 2 ≤ l) ls → without_false ls ≡ ls
        no_false [] h = refl
        no_false (l ∷ ls) h = rw (ne_eqb l 0 (omega (arith, h.0))) (ap (λ (t : List ℕ). l ∷ t) (no_false ls h.1))

        map_twice : (l : List ℕ) → map cnf_word (map (predicate_literal inputs relevant) l) ≡ map coded l
        map_twice [] = refl
        map_twice (x ∷ l) = ap (λ (t : List ℕ). coded x ∷ t) (map_twice l)
