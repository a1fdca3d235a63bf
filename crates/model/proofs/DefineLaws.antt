-- `defining`, `literal` and `ordered`, test by test as the code makes them; v is the literal's variable.
use Prim.Native.Nat.{ℕ, ◌+◌, ◌/◌, ◌%◌, ◌<◌, ◌≤◌}
use mathlib.Core.Bool.{Bool, true, false, not, cond, ◌&&◌}
use mathlib.Core.List.{List}
use mathlib.Core.Path.{◌≡◌, refl}
use native.Mathlib.Omega.{arith}
use lib.ListN.{length, get_or, drop}
use Rattle.lists.specs.Sets.{holds, with_bit}
use Rattle.lists.specs.Tests.{all}
use Rattle.lists.proofs.BoolLaws.{to_false}
use Rattle.lists.proofs.TestLaws.{all-stop, all_more}
use Rattle.aiger.specs.declared.Gate.{Gate}
use Rattle.aiger.specs.Gates.{variable}
use Rattle.aiger.specs.Defined.{literal, defining, ordered}
use Rattle.aiger.proofs.DefinedLaws.{literal-low, low-literal, Defines, defines, defines-holds, Orders, orders, orders-holds}

module _ (most l v : ℕ) (q : v ≡ l / 2) where
  pub literal-above : most < v → literal most l ≡ false
  literal-above h = to_false (literal most l) (λ e. let k = literal-low most l e in omega arith)

  pub literal-within : v ≤ most → literal most l ≡ true
  literal-within h = low-literal most l (omega arith)

-- a literal that fails defines nothing, and no mark is set
module _ (most l : ℕ) (w : List ℕ) where
  abbrev pub Undefined : Type 0
  Undefined = (false ≡ (defining most l && not (holds w (variable l)))) × (w ≡ cond (defining most l) (with_bit w (variable l)) w)

  pub undefining : (Defines most l → ⊥) → Undefined
  undefining n = let e = to_false (defining most l) (λ e. n (defines most l e)) in (rw e refl, rw e refl)

  module _ (v : ℕ) (q : v ≡ l / 2) where
    -- where the tests of the literal have passed, the answer is that of the marks
    pub defining_said : (l ≡ 0 → ⊥) → l % 2 ≡ 0 → v ≤ most → (r : Bool) (w' : List ℕ) → r ≡ not (holds w v) → w' ≡ with_bit w v
        → (r ≡ (defining most l && not (holds w (variable l)))) × (w' ≡ cond (defining most l) (with_bit w (variable l)) w)
    defining_said n e h r w' k x =
        let d = defines-holds most l (record { some = omega arith; even = e; low = omega arith }) in
        (rw (d, ← q) k, rw (d, ← q) x)

module _ (g : Gate) where
  pub disordered : (Orders g → ⊥) → ordered g ≡ false
  disordered n = to_false (ordered g) (λ e. n (orders g e))

  pub both_smaller : g.left / 2 < g.output / 2 → g.right / 2 < g.output / 2 → ordered g ≡ true
  both_smaller h k = orders-holds g (record { left = h; right = k })

-- a loop over literals, in rest form
module _ (most : ℕ) (ls : List ℕ) (i v : ℕ) (k : all (literal most) ls ≡ all (literal most) (drop i ls)) (h : i < length ls) (q : v ≡ get_or ls i 0 / 2) where
  pub within-stop : most < v → false ≡ all (literal most) ls
  within-stop m = all-stop (literal most) ls i (all (literal most) ls) k 0 h (literal-above most (get_or ls i 0) v q m)

  pub within_more : v ≤ most → all (literal most) ls ≡ all (literal most) (drop (i + 1) ls)
  within_more m = all_more (literal most) ls i (all (literal most) ls) k 0 h (literal-within most (get_or ls i 0) v q m)
