-- For the contracts of the composer's inner functions: gates shared in lent words.
use Rattle.std.specs.Prelude.{ℕ, suc, ◌+◌, ◌*◌, ◌/◌, ◌<◌, true, cond, List, [], map, ◌≡◌, length, get_or, take, Option, Some, None}
use Rattle.lists.specs.Parts.{zeros}
use Rattle.lists.specs.Tests.{Each}
use Rattle.lists.specs.Words.{pairs_of}
use Rattle.aiger.specs.Gates.{variable, gate_from}
use Rattle.key_table.specs.Inner.Table.{Held}
use Rattle.compose_spec.specs.Sharing.{Shared, share_gates}
use Rattle.compose_spec.specs.Inner.Keys.{key_of}
use Rattle.compose_spec.specs.Composing.{gates_fit}

-- ---- one gate

-- the composed variable of a literal's variable stands among these, and is small
pub record Translatable (vars : List ℕ) (l : ℕ) : Type 0 where
  pub within : variable l < length vars
  pub small : get_or vars (variable l) 0 < 1073741824

-- ---- all gates

-- Before the gates are shared: the operands of gates, the composed variables of `known` joint ones with room for those of the gates, and a table whose heads are 0.
pub record Sharable (operands vars : List ℕ) (known : ℕ) (table : List ℕ) (leaves : ℕ) : Type 0 where
  pub even : length operands ≡ 2 * (length operands / 2)
  pub long : length vars ≡ known + length operands / 2
  pub room : length table ≡ 4 * (length operands / 2) + 1
  pub few : leaves + length operands / 2 < 1073741824
  pub empty : take (length operands / 2 + 1) table ≡ zeros (length operands / 2 + 1)
  pub small : Each (λ x. x < 1073741824) (take known vars)
  -- the operands of a gate stand before it
  pub earlier : (i : ℕ) → i < length operands / 2 → (variable (get_or operands (2 * i) 0) < known + i) × (variable (get_or operands (2 * i + 1) 0) < known + i)

-- the composed gates, and the composed variables of all joint ones
abbrev pub shared_in : (operands vars : List ℕ) (known leaves : ℕ) → Shared
shared_in operands vars known leaves = share_gates (suc leaves) (pairs_of (gate_from 0) operands) (record { vars = take known vars; gates = [] })

-- how many composed gates there are, or 17
abbrev pub shared_answer : ℕ → Shared → Option ℕ
shared_answer leaves s = cond (gates_fit leaves s.gates) (Some (length s.gates)) None

-- after so many gates are shared: all composed variables, and the table with the gates
pub record Linked (count known : ℕ) (vars : List ℕ) (s : Shared) (vars' table' : List ℕ) : Type 0 where
  pub variables : vars' ≡ s.vars
  pub keys : Held (count + 1) (map key_of s.gates) table'
  pub before : take known vars' ≡ take known vars

-- The promise: the answer, and the words where 17 does not apply.
pub record Shares (operands vars : List ℕ) (known leaves : ℕ) (vars' table' : List ℕ) (r : Option ℕ) : Type 0 where
  pub returns : r ≡ shared_answer leaves (shared_in operands vars known leaves)
  pub words : gates_fit leaves (shared_in operands vars known leaves).gates ≡ true → Linked (length operands / 2) known vars (shared_in operands vars known leaves) vars' table'
