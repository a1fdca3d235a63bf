-- For all bits of the leaves there are values that follow the gate equations, wherever the gates are listed.
use Prim.Native.Nat.{ℕ, zero, suc, ◌<◌}
use mathlib.Core.Bool.{Bool, true, false, ◌&&◌, cond}
use mathlib.Core.List.{List, [], ◌∷◌, ◌++◌, map, map-append}
use mathlib.Core.Path.{◌≡◌, refl, sym, ◌∙◌}
use native.Mathlib.Omega.{arith}
use lib.Dec.{eqb}
use lib.ListN.{length}
use borrow.Author.Tests.{eqb-true, eqb-false, eq-eqb, ne_eqb}
use Rattle.lists.specs.Tests.{Each}
use Rattle.lists.specs.Sets.{member, distinct}
use Rattle.lists.proofs.TestLaws.{each-so, each_with, each_map, each_of_map, each_append, each-split}
use Rattle.lists.proofs.DistinctLaws.{member-first, member-rest, member-not, distinct_head, distinct_tail}
use Rattle.aiger.specs.declared.Gate.{Gate}
use Rattle.aiger.specs.Gates.{variable, Valuation, value, output_of, Conjunction, Follows}
use Rattle.aiger.specs.Defined.{definitions, defined}
use Rattle.aiger.proofs.DefinedLaws.{Defines, Orders, Defined, defined_facts, zero_undefined, value_even, value_same}

-- ---- rules, each of which gives a variable's value from the values of smaller variables

record Rule : Type 0 where
  var : ℕ
  gives : Valuation → Bool

abbrev var_of : Rule → ℕ
var_of r = r.var

-- the first rule for variable n, under the values w; false where there is none
look : List Rule → ℕ → Valuation → Bool
look [] n w = false
look (r ∷ rs) n w = cond (eqb r.var n) (r.gives w) (look rs n w)

-- the values of the variables below k
stage : List Rule → ℕ → Valuation
stage rs zero n = false
stage rs (suc k) n = cond (eqb n k) (look rs n (stage rs k)) (stage rs k n)

solution : List Rule → Valuation
solution rs n = stage rs (suc n) n

abbrev Local : Rule → Type 0
Local r = (u v : Valuation) → ((n : ℕ) → n < r.var → u n ≡ v n) → r.gives u ≡ r.gives v

solution-is : (rs : List Rule) (n : ℕ) → solution rs n ≡ look rs n (stage rs n)
unfolding solution stage
solution-is rs n = rw (eq-eqb n n refl)

stable : (rs : List Rule) (k n : ℕ) → n < k → stage rs k n ≡ solution rs n
unfolding stage
stable rs zero n h = absurd (omega arith)
stable rs (suc k) n h = go (eqb n k) refl (stable rs k n)
  where
    go : (b : Bool) → eqb n k ≡ b → (n < k → stage rs k n ≡ solution rs n) → cond b (look rs n (stage rs k)) (stage rs k n) ≡ solution rs n
    go true e ih = let q : n ≡ k = eqb-true n k e in rw (← q) (sym (solution-is rs n))
    go false e ih = let q : n ≡ k → ⊥ = eqb-false n k e in ih (omega arith)

abbrev Found : List Rule → Rule → Type 0
Found rs r = (w : Valuation) → look rs r.var w ≡ r.gives w

look-each : (rs : List Rule) → distinct (map var_of rs) ≡ true → Each (Found rs) rs
unfolding look
look-each [] d = tt
look-each (q ∷ rs) d = (
  λ w. rw (eq-eqb q.var q.var refl),
  each_with (Found rs) (λ r. q.var ≡ r.var → ⊥) (Found (q ∷ rs))
      (λ r f n w. rw (ne_eqb q.var r.var n) (f w)) rs
      (look-each rs (distinct_tail q.var (map var_of rs) d))
      (each_of_map var_of (λ n. q.var ≡ n → ⊥) rs (member-not q.var (map var_of rs) (distinct_head q.var (map var_of rs) d))),
)

look_none : (rs : List Rule) (n : ℕ) (w : Valuation) → member n (map var_of rs) ≡ false → look rs n w ≡ false
unfolding look
look_none [] n w h = refl
look_none (r ∷ rs) n w h =
    rw (ne_eqb r.var n (λ e. member-first n r.var (map var_of rs) h (sym e))) (look_none rs n w (member-rest n r.var (map var_of rs) h))

abbrev Obeys : Valuation → Rule → Type 0
Obeys v r = v r.var ≡ r.gives v

-- the solution obeys every rule
solves : (rs : List Rule) → distinct (map var_of rs) ≡ true → Each Local rs → Each (Obeys (solution rs)) rs
solves rs d l =
    each_with (Found rs) Local (Obeys (solution rs))
    (λ r f k. solution-is rs r.var ∙ f (stage rs r.var) ∙ k (stage rs r.var) (solution rs) (stable rs r.var))
    rs (look-each rs d) l

-- ---- the rules of a circuit

abbrev bit_rule : ℕ → Bool → Rule
bit_rule l b = record { var = variable l; gives = λ w. b }

abbrev gate_rule : Gate → Rule
gate_rule g = record { var = variable g.output; gives = λ w. value w g.left && value w g.right }

abbrev bit_rules : List ℕ → List Bool → List Rule
bit_rules [] bs = []
bit_rules (l ∷ ls) [] = []
bit_rules (l ∷ ls) (b ∷ bs) = bit_rule l b ∷ bit_rules ls bs

bit-vars : (ls : List ℕ) (bs : List Bool) → length bs ≡ length ls → map var_of (bit_rules ls bs) ≡ map variable ls
bit-vars [] bs e = refl
bit-vars (l ∷ ls) [] e = absurd (omega arith)
bit-vars (l ∷ ls) (b ∷ bs) e = rw (bit-vars ls bs (omega arith))

gate_vars : (gs : List Gate) → map var_of (map gate_rule gs) ≡ map variable (map output_of gs)
gate_vars [] = refl
gate_vars (g ∷ gs) = rw (gate_vars gs)

bit_local : (ls : List ℕ) (bs : List Bool) → Each Local (bit_rules ls bs)
bit_local [] bs = tt
bit_local (l ∷ ls) [] = tt
bit_local (l ∷ ls) (b ∷ bs) = (λ u v h. refl, bit_local ls bs)

gate_local : (g : Gate) → Orders g → Local (gate_rule g)
gate_local g o u v below =
    rw (value_same u v g.left (below (variable g.left) o.left), value_same u v g.right (below (variable g.right) o.right))

-- the rules of bits give the bits
bits-given : (most : ℕ) (v : Valuation) (ls : List ℕ) (bs : List Bool) → length bs ≡ length ls → Each (Defines most) ls → Each (Obeys v) (bit_rules ls bs)
    → map (value v) ls ≡ bs
bits-given most v [] [] e d o = refl
bits-given most v [] (b ∷ bs) e d o = absurd (omega arith)
bits-given most v (l ∷ ls) [] e d o = absurd (omega arith)
bits-given most v (l ∷ ls) (b ∷ bs) e d o =
    rw (value_even v l d.0.even, o.0, bits-given most v ls bs (omega arith) d.1 o.1)

-- values of all variables: the leaves' are the bits, and the gates follow their equations
pub record Solution (leaves : List ℕ) (bs : List Bool) (gates : List Gate) : Type 0 where
  pub values : Valuation
  pub given : map (value values) leaves ≡ bs
  pub follows : Follows gates values

module _ (most : ℕ) (leaves : List ℕ) (gates : List Gate) (facts : Defined most leaves gates) (bs : List Bool) (same : length bs ≡ length leaves) where
  abbrev rules : List Rule
  rules = bit_rules leaves bs ++ map gate_rule gates

  rules-vars : map var_of rules ≡ map variable (definitions leaves gates)
  rules-vars =
      map-append var_of (bit_rules leaves bs) (map gate_rule gates)
      ∙ rw (bit-vars leaves bs same, gate_vars gates, ← map-append variable leaves (map output_of gates))

  obeyed : Each (Obeys (solution rules)) rules
  obeyed =
      solves rules (rw rules-vars facts.once)
      (each_append Local (bit_rules leaves bs) (map gate_rule gates) (bit_local leaves bs) (each_map gate_rule Local gates (each-so Orders (λ g. Local (gate_rule g)) gate_local gates facts.order)))

  solved : Solution leaves bs gates
  solved =
      let v = solution rules in
      let o = each-split (Obeys v) (bit_rules leaves bs) (map gate_rule gates) obeyed in
      let d = each-split (Defines most) leaves (map output_of gates) facts.each in
      record {
        values = v;
        given = bits-given most v leaves bs same d.0 o.0;
        follows =
            record {
              constant = solution-is rules 0 ∙ look_none rules 0 (stage rules 0) (rw rules-vars (zero_undefined most (definitions leaves gates) facts.each));
              conjunctions =
                  each_with (λ g. Defines most g.output) (λ g. Obeys v (gate_rule g)) (Conjunction v)
                  (λ g e k. value_even v g.output e.even ∙ k) gates
                  (each_of_map output_of (Defines most) gates d.1)
                  (each_of_map gate_rule (Obeys v) gates o.1);
            };
      }

pub values-exist : (most : ℕ) (leaves : List ℕ) (gates : List Gate) → defined most leaves gates ≡ true → (bs : List Bool) → length bs ≡ length leaves → Solution leaves bs gates
values-exist most leaves gates h bs same = solved most leaves gates (defined_facts most leaves gates h) bs same
