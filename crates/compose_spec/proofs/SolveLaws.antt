-- Gates one after the other, each with smaller operands: inputs and latches fix every value, and for all values of these there are values of the gates.
use Prim.Native.Nat.{ℕ, zero, suc, ◌+◌, ◌%◌, ◌≤◌, ◌<◌}
use mathlib.Core.Bool.{Bool, true, false, cond, ◌&&◌}
use mathlib.Core.List.{List, [], ◌∷◌}
use mathlib.Core.Path.{◌≡◌, refl, sym, ◌∙◌}
use native.Mathlib.Omega.{arith}
use lib.Dec.{eqb}
use lib.ListN.{length}
use borrow.Author.Tests.{eqb-true, eqb-false, eq-eqb, ne_eqb}
use Rattle.lists.specs.Tests.{Each}
use Rattle.lists.proofs.BoolLaws.{and_cong}
use Rattle.aiger.specs.declared.Gate.{Gate}
use Rattle.aiger.specs.Gates.{variable, Valuation, value, Conjunction, Follows}
use Rattle.aiger.proofs.DefinedLaws.{value_even, value_same}
use Rattle.witness_read.specs.Sections.{Sections, leaves, variables}
use Rattle.compose_spec.specs.Meaning.{SameLeaves, Solution}
use Rattle.compose_spec.specs.Inner.Ranges.{GateAt, GatesFrom}

-- the value of a gate's output is that of its variable
pub output-value : (v : Valuation) (n : ℕ) (g : Gate) → GateAt n g → value v g.output ≡ v n
output-value v n g a =
    let e : g.output % 2 ≡ 0 = omega (arith, a.output) in
    let f : variable g.output ≡ n = omega (arith, a.output) in
    value_even v g.output e ∙ rw f refl

-- values that are the same below n give the operands of its gate the same values
operands_same : (u v : Valuation) (n : ℕ) (g : Gate) → GateAt n g → ((x : ℕ) → x < n → u x ≡ v x)
    → (value u g.left && value u g.right) ≡ (value v g.left && value v g.right)
operands_same u v n g a same =
    and_cong (value u g.left) (value u g.right) (value v g.left) (value v g.right)
    (value_same u v g.left (same (variable g.left) a.left))
    (value_same u v g.right (same (variable g.right) a.right))

-- ---- only these values

-- what holds below n and of n holds below n + 1
below_next : (u v : Valuation) (n : ℕ) → ((x : ℕ) → x < n → u x ≡ v x) → u n ≡ v n → (x : ℕ) → x < suc n → u x ≡ v x
below_next u v n same e x h = go (eqb x n) refl
  where
    go : (q : Bool) → eqb x n ≡ q → u x ≡ v x
    go true f = rw (eqb-true x n f) e
    go false f = let d : x ≡ n → ⊥ = eqb-false x n f in same x (omega arith)

-- values of the variables below n fix those of the gates
gates_fix : (u v : Valuation) (n : ℕ) (gs : List Gate) → GatesFrom n gs → Each (Conjunction u) gs → Each (Conjunction v) gs
    → ((x : ℕ) → x < n → u x ≡ v x) → (x : ℕ) → x < n + length gs → u x ≡ v x
gates_fix u v n [] a c d same x h = same x (omega arith)
gates_fix u v n (g ∷ gs) a c d same x h =
    let e : u n ≡ v n =
    sym (output-value u n g a.0) ∙ c.0 ∙ operands_same u v n g a.0 same ∙ sym d.0 ∙ output-value v n g a.0 in
    gates_fix u v (suc n) gs a.1 c.1 d.1 (below_next u v n same e) x (omega arith)

-- ---- there are values

-- values that follow the equations of gates and are v's below n
record Extends (n : ℕ) (gs : List Gate) (v : Valuation) : Type 0 where
  values : Valuation
  conjunctions : Each (Conjunction values) gs
  same : (x : ℕ) → x < n → values x ≡ v x

-- the values v, but b for the variable n
abbrev but : ℕ → Bool → Valuation → Valuation
but n b v x = cond (eqb x n) b (v x)

-- below n they are v's
but_same : (n : ℕ) (b : Bool) (v : Valuation) (x : ℕ) → x < n → but n b v x ≡ v x
but_same n b v x h = rw (ne_eqb x n (λ e. omega arith))

-- there are such values: each gate gets its own
extend : (n : ℕ) (gs : List Gate) → GatesFrom n gs → (v : Valuation) → Extends n gs v
extend n [] a v = record { values = v; conjunctions = tt; same = λ x h. refl }
extend n (g ∷ gs) a v =
    let b : Bool = value v g.left && value v g.right in
    let r = extend (suc n) gs a.1 (but n b v) in
    let w : Valuation = r.values in
    let low : (x : ℕ) → x < n → w x ≡ v x = λ x h. r.same x (omega arith) ∙ but_same n b v x h in
    let here : w n ≡ b = r.same n (omega arith) ∙ rw (eq-eqb n n refl) refl in
    record {
      values = w;
      conjunctions = (output-value w n g a.0 ∙ here ∙ sym (operands_same w v n g a.0 low), r.conjunctions);
      same = low;
    }

-- ---- sections

module _ (s : Sections) (a : GatesFrom (suc (leaves s)) s.gates) where
  -- R11.1: for all values of inputs and latches there are values of all variables ..
  pub sections-solved : (v : Valuation) → Solution s v
  sections-solved v =
      let z : Valuation = but 0 false v in
      let r = extend (suc (leaves s)) s.gates a z in
      record {
        values = r.values;
        follows = record { constant = r.same 0 (omega arith); conjunctions = r.conjunctions };
        same = λ k h. r.same (suc k) (omega arith) ∙ rw (ne_eqb (suc k) 0 (λ e. omega arith)) refl;
      }

  -- .. and only these
  pub sections_fixed : (u v : Valuation) → Follows s.gates u → Follows s.gates v → SameLeaves s u v → (x : ℕ) → x ≤ variables s → u x ≡ v x
  sections_fixed u v f g same x h = gates_fix u v (suc (leaves s)) s.gates a f.conjunctions g.conjunctions low x (omega arith)
    where
      low : (y : ℕ) → y < suc (leaves s) → u y ≡ v y
      low zero k = f.constant ∙ sym g.constant
      low (suc y) k = same y (omega arith)
