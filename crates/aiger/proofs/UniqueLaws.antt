-- The leaves fix every value: two valuations that follow the gate equations and agree at the leaves agree.
use Prim.Native.Nat.{ℕ, zero, suc, ◌+◌, ◌*◌, ◌≤◌, ◌<◌}
use mathlib.Core.Bool.{true, ◌||◌}
use mathlib.Core.List.{List, ◌∷◌, map}
use mathlib.Core.Path.{◌≡◌, sym, ◌∙◌}
use native.Mathlib.Omega.{arith}
use lib.Dec.{eqb}
use lib.ListN.{length, length-append, length-map}
use borrow.Author.Tests.{ne_eqb}
use Rattle.lists.specs.Tests.{Each}
use Rattle.lists.specs.Sets.{member, distinct}
use Rattle.lists.proofs.TestLaws.{each-so, each_with, each_map, each_of_map, each_append, each-split}
use Rattle.lists.proofs.MapLaws.{maps_each}
use Rattle.lists.proofs.DistinctLaws.{each_member}
use Rattle.lists.proofs.CountLaws.{distinct-all}
use Rattle.aiger.specs.declared.Gate.{Gate}
use Rattle.aiger.specs.Gates.{variable, Valuation, value, output_of, Conjunction, Follows}
use Rattle.aiger.specs.Defined.{definitions, defined}
use Rattle.aiger.proofs.DefinedLaws.{Defines, Orders, Defined, defined_facts, zero_undefined, value_even, value_same}

-- where M is the number of definitions, each variable from 1 to M has one
module _ (most : ℕ) (leaves : List ℕ) (gates : List Gate) (facts : Defined most leaves gates) (sum : length leaves + length gates ≡ most) where
  pub each-defined : (n : ℕ) → 0 < n → n ≤ most → member n (map variable (definitions leaves gates)) ≡ true
  each-defined n p h =
      let ds = definitions leaves gates in
      let vars = map variable ds in
      let once : distinct (0 ∷ vars) ≡ true = rw (zero_undefined most ds facts.each) facts.once in
      let low : Each (λ k. k < suc most) vars = each_map variable (λ k. k < suc most) ds (each-so (Defines most) (λ l. variable l < suc most) (λ l d. omega (arith, d.low)) ds facts.each) in
      let count : length (0 ∷ vars) ≡ suc most = simp (length-map, length-append) (omega arith) in
      let m : (eqb n 0 || member n vars) ≡ true = distinct-all (suc most) (0 ∷ vars) once (omega arith, low) count n (omega arith) in
      rw (ne_eqb n 0 (omega arith)) at m

module _ (most : ℕ) (leaves : List ℕ) (gates : List Gate) (u v : Valuation) where
  -- the values at variable n agree where they do at all smaller ones
  abbrev Next : ℕ → Type 0
  Next n = ((k : ℕ) → k < n → u k ≡ v k) → u n ≡ v n

  leaf_next : (l : ℕ) → Defines most l → value u l ≡ value v l → Next (variable l)
  leaf_next l d e below = sym (value_even u l d.even) ∙ e ∙ value_even v l d.even

  record Both (g : Gate) : Type 0 where
    first : Conjunction u g
    second : Conjunction v g

  gate_next : (g : Gate) → Defines most g.output → Orders g → Both g → Next (variable g.output)
  gate_next g d o b below =
      let pl : value u g.left ≡ value v g.left = value_same u v g.left (below (variable g.left) o.left) in
      let pr : value u g.right ≡ value v g.right = value_same u v g.right (below (variable g.right) o.right) in
      sym (value_even u g.output d.even) ∙ b.first ∙ rw (pl, pr) (sym b.second) ∙ value_even v g.output d.even

  each_next : Defined most leaves gates → Follows gates u → Follows gates v → map (value u) leaves ≡ map (value v) leaves → Each Next (map variable (definitions leaves gates))
  each_next facts f g e =
      let d = each-split (Defines most) leaves (map output_of gates) facts.each in
      let both : Each Both gates = each_with (Conjunction u) (Conjunction v) Both (λ a p q. record { first = p; second = q }) gates f.conjunctions g.conjunctions in
      let ordered : Each (λ a. Defines most a.output → Next (variable a.output)) gates =
      each_with Orders Both (λ a. Defines most a.output → Next (variable a.output)) (λ a o b c. gate_next a c o b) gates facts.order both in
      each_map variable Next (definitions leaves gates)
      (each_append (λ l. Next (variable l)) leaves (map output_of gates)
      (each_with (Defines most) (λ l. value u l ≡ value v l) (λ l. Next (variable l)) leaf_next leaves d.0 (maps_each (value u) (value v) leaves e))
      (each_map output_of (λ l. Next (variable l)) gates
      (each_with (λ a. Defines most a.output) (λ a. Defines most a.output → Next (variable a.output)) (λ a. Next (variable a.output)) (λ a c k. k c) gates
      (each_of_map output_of (Defines most) gates d.1) ordered)))

module _ (most : ℕ) (leaves : List ℕ) (gates : List Gate) (u v : Valuation)
    (is : defined most leaves gates ≡ true) (sum : length leaves + length gates ≡ most)
    (f : Follows gates u) (g : Follows gates v) (e : map (value u) leaves ≡ map (value v) leaves) where
  agree : (k n : ℕ) → n < k → n ≤ most → u n ≡ v n
  agree zero n h b = absurd (omega arith)
  agree (suc k) zero h b = f.constant ∙ sym g.constant
  agree (suc k) (suc n) h b =
      let facts = defined_facts most leaves gates is in
      each_member (Next most leaves gates u v) (suc n) (map variable (definitions leaves gates)) (each_next most leaves gates u v facts f g e)
      (each-defined most leaves gates facts sum (suc n) (omega arith) b)
      (λ j lt. agree k j (omega arith) (omega arith))

  -- R11.1: two valuations that follow the equations and agree on inputs and latches agree on every variable up to M
  pub values-unique : (n : ℕ) → n ≤ most → u n ≡ v n
  values-unique n h = agree (suc n) n (omega arith) h

  pub literals-unique : (l : ℕ) → l ≤ 2 * most + 1 → value u l ≡ value v l
  literals-unique l h = value_same u v l (values-unique (variable l) (omega arith))
