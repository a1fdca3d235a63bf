-- Laws of `share_gates` and of 17: gates are only added, so one that is too many stays too many.
use Prim.Native.Nat.{ℕ, ◌+◌, ◌≤◌, ◌<◌}
use mathlib.Core.Bool.{true, false}
use mathlib.Core.List.{List, [], ◌∷◌}
use mathlib.Core.Path.{◌≡◌, refl, ◌∙◌}
use native.Mathlib.Omega.{arith}
use borrow.Author.Tests.{le-leb, lt-leb}
use lib.Dec.{leb}
use lib.ListN.{length}
use Rattle.aiger.specs.declared.Gate.{Gate}
use Rattle.compose_spec.specs.Sharing.{Operands, same_operands, translated, Shared, share_gates}
use Rattle.compose_spec.specs.Composing.{gates_fit}
use Rattle.compose_gates.proofs.FirstLaws.{joined_length}

-- the composed gates and variables after one gate more
abbrev pub with_gate : ℕ → Gate → Shared → Shared
with_gate n g t = share_gates n (g ∷ []) t

pub gates_grow : (n : ℕ) (gs : List Gate) (t : Shared) → length t.gates ≤ length (share_gates n gs t).gates
gates_grow n [] t = omega arith
gates_grow n (g ∷ gs) t = omega (arith, joined_length same_operands (translated t.vars g) t.gates, gates_grow n gs (with_gate n g t))

some_fit : (leaves : ℕ) (gs : List Operands) → 0 < length gs → gates_fit leaves gs ≡ leb (leaves + length gs) 2000000
some_fit leaves [] h = absurd (omega arith)
some_fit leaves (g ∷ gs) h = refl

pub fit_true : (leaves : ℕ) (gs : List Operands) → leaves + length gs ≤ 2000000 → gates_fit leaves gs ≡ true
fit_true leaves [] h = refl
fit_true leaves (g ∷ gs) h = le-leb (leaves + length (g ∷ gs)) 2000000 h

pub fit_false : (leaves : ℕ) (gs : List Operands) → 0 < length gs → 2000000 < leaves + length gs → gates_fit leaves gs ≡ false
fit_false leaves gs k h = some_fit leaves gs k ∙ lt-leb (leaves + length gs) 2000000 h
