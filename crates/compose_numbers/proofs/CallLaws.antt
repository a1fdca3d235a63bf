-- For callers: how to meet what the functions ask for, and that only the variables that a literal names count.
use Prim.Native.Nat.{ℕ, ◌+◌, ◌-◌, ◌*◌, ◌%◌, ◌≤◌, ◌<◌}
use mathlib.Core.List.{List}
use mathlib.Core.Path.{◌≡◌, sym, ap, subst, ◌∙◌}
use native.Mathlib.Omega.{arith}
use lib.ListN.{length, get_or}
use Rattle.lists.specs.Parts.{part, put, zeros}
use Rattle.lists.specs.Tests.{Each}
use Rattle.lists.proofs.MapLaws.{each_maps}
use Rattle.lists.proofs.PartLaws.{part_length, part_at, put-part}
use Rattle.lists.proofs.TestLaws.{each_at, each-so}
use Rattle.lists.proofs.ZeroLaws.{zeros-length}
use Rattle.aiger.specs.Gates.{variable}
use Rattle.compose_spec.specs.Sharing.{translate}
use Rattle.compose_numbers.specs.Inner.Marked.{composed_in}

-- what holds of all words of a part, in the form that `CanNumber` asks for
pub each_word : (P : ℕ → Type 0) (work : List ℕ) (at n : ℕ) → at + n ≤ length work → Each P (part work at (at + n)) → (i : ℕ) → i < n → P (get_or work (at + i) 0)
each_word P work at n h e i k =
    subst P (part_at work at (at + n) i 0 (omega arith)) (each_at P (part work at (at + n)) i 0 e (omega (arith, part_length work at (at + n) h)))

-- ---- literals

module _ (vars size : ℕ) (work : List ℕ) where
  -- a variable, from a part that ends further on
  variable-within : (e x : ℕ) → vars + size ≤ e → x < size → get_or (part work vars e) x 0 ≡ get_or (part work vars (vars + size)) x 0
  variable-within e x h k = part_at work vars e x 0 (omega arith) ∙ sym (part_at work vars (vars + size) x 0 (omega arith))

  -- only the variables that the literals name count
  pub literals-part : (e : ℕ) → vars + size ≤ e → (ls : List ℕ) → Each (λ l. variable l < size) ls → composed_in ls (part work vars e) ≡ composed_in ls (part work vars (vars + size))
  literals-part e h ls k =
      each_maps (translate (part work vars e)) (translate (part work vars (vars + size))) ls
      (each-so (λ l. variable l < size) (λ l. translate (part work vars e) l ≡ translate (part work vars (vars + size)) l)
      (λ l j. ap (λ (y : ℕ). 2 * y + l % 2) (variable-within e (variable l) h j)) ls k)

-- a region that was cleared
pub cleared-part : (work : List ℕ) (from to : ℕ) → from ≤ to → to ≤ length work → part (put work from (zeros (to - from))) from to ≡ zeros (to - from)
cleared-part work from to h k =
    let n : from + length (zeros (to - from)) ≡ to = omega (arith, zeros-length (to - from)) in
    ap (part (put work from (zeros (to - from))) from) (sym n) ∙ put-part work from (zeros (to - from)) (omega arith)
