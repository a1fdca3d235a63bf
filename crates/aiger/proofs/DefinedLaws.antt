-- What the tests of literals and gates say, and the values of literals.
use Prim.Native.Nat.{ℕ, ◌+◌, ◌*◌, ◌%◌, ◌≤◌, ◌<◌}
use mathlib.Core.Bool.{true, false, not}
use mathlib.Core.List.{List, [], ◌∷◌, map}
use mathlib.Core.Path.{◌≡◌}
use native.Mathlib.Omega.{arith}
use lib.Dec.{ltb}
use borrow.Author.Tests.{ltb-true, leb-true, lt-ltb, le-leb, eqb-false, ne_eqb, not-true}
use Rattle.lists.specs.Bits.{odd}
use Rattle.lists.specs.Tests.{all, Each}
use Rattle.lists.specs.Sets.{member, distinct}
use Rattle.lists.proofs.TestLaws.{every_facts, every_holds, each_of_all, each-so, each_map}
use Rattle.lists.proofs.DistinctLaws.{not-member}
use Rattle.aiger.specs.declared.Gate.{Gate}
use Rattle.aiger.specs.Gates.{variable, Valuation, value}
use Rattle.aiger.specs.Defined.{literal, defining, ordered, definitions, defined}

pub literal-low : (most l : ℕ) → literal most l ≡ true → l ≤ 2 * most + 1
unfolding literal
literal-low most l h = leb-true l (2 * most + 1) h

pub low-literal : (most l : ℕ) → l ≤ 2 * most + 1 → literal most l ≡ true
unfolding literal
low-literal most l h = le-leb l (2 * most + 1) h

-- l may define its variable
pub record Defines (most l : ℕ) : Type 0 where
  pub some : 0 < l
  pub even : l % 2 ≡ 0
  pub low : l ≤ 2 * most + 1

pub defines : (most l : ℕ) → defining most l ≡ true → Defines most l
unfolding defining
defines most l h =
    let f = every_facts (ltb 0 l ∷ not (odd l) ∷ literal most l ∷ []) h in
    let n : l % 2 ≡ 1 → ⊥ = eqb-false (l % 2) 1 (not-true (odd l) f.1.0) in
    record { some = ltb-true 0 l f.0; even = omega arith; low = literal-low most l f.1.1.0 }

pub defines-holds : (most l : ℕ) → Defines most l → defining most l ≡ true
unfolding defining
defines-holds most l d =
    let n : odd l ≡ false = ne_eqb (l % 2) 1 (λ e. omega (arith, d.even)) in
    every_holds (ltb 0 l ∷ not (odd l) ∷ literal most l ∷ []) (lt-ltb 0 l d.some, (rw n, (low-literal most l d.low, tt)))

-- the operands' variables are smaller than the gate's
pub record Orders (g : Gate) : Type 0 where
  pub left : variable g.left < variable g.output
  pub right : variable g.right < variable g.output

pub orders : (g : Gate) → ordered g ≡ true → Orders g
unfolding ordered
orders g h =
    let f = every_facts (ltb (variable g.left) (variable g.output) ∷ ltb (variable g.right) (variable g.output) ∷ []) h in
    record { left = ltb-true (variable g.left) (variable g.output) f.0; right = ltb-true (variable g.right) (variable g.output) f.1.0 }

pub orders-holds : (g : Gate) → Orders g → ordered g ≡ true
unfolding ordered
orders-holds g o =
    every_holds
    (ltb (variable g.left) (variable g.output) ∷ ltb (variable g.right) (variable g.output) ∷ [])
    (lt-ltb (variable g.left) (variable g.output) o.left, (lt-ltb (variable g.right) (variable g.output) o.right, tt))

-- each variable is defined once, and operands are smaller
pub record Defined (most : ℕ) (leaves : List ℕ) (gates : List Gate) : Type 0 where
  pub each : Each (Defines most) (definitions leaves gates)
  pub once : distinct (map variable (definitions leaves gates)) ≡ true
  pub order : Each Orders gates

pub defined_facts : (most : ℕ) (leaves : List ℕ) (gates : List Gate) → defined most leaves gates ≡ true → Defined most leaves gates
unfolding defined
defined_facts most leaves gates h =
    let ds = definitions leaves gates in
    let f = every_facts (all (defining most) ds ∷ distinct (map variable ds) ∷ all ordered gates ∷ []) h in
    record {
      each = each-so (λ l. defining most l ≡ true) (Defines most) (defines most) ds (each_of_all (defining most) ds f.0);
      once = f.1.0;
      order = each-so (λ g. ordered g ≡ true) Orders orders gates (each_of_all ordered gates f.1.1.0);
    }

-- variable 0 is that of the constants: no definition has it
pub zero_undefined : (most : ℕ) (ls : List ℕ) → Each (Defines most) ls → member 0 (map variable ls) ≡ false
zero_undefined most ls e =
    not-member 0 (map variable ls)
    (each_map variable (λ n. 0 ≡ n → ⊥) ls (each-so (Defines most) (λ l. 0 ≡ variable l → ⊥) (λ l d q. omega (arith, d.some, d.even)) ls e))

-- the value of an even literal is its variable's
pub value_even : (v : Valuation) (l : ℕ) → l % 2 ≡ 0 → value v l ≡ v (variable l)
unfolding value
value_even v l e = rw e

pub value_same : (u v : Valuation) (l : ℕ) → u (variable l) ≡ v (variable l) → value u l ≡ value v l
unfolding value
value_same u v l e = rw e
