-- How gates are shared (R8.5).
use Rattle.std.specs.Prelude.{ℕ, suc, ◌+◌, ◌*◌, ◌%◌, Bool, cond, ◌&&◌, List, [], ◌∷◌, ◌++◌, eqb, leb, get_or}
use Rattle.lists.specs.Firsts.{place, joined}
use Rattle.aiger.specs.declared.Gate.{Gate}
use Rattle.aiger.specs.Gates.{variable, gate_from}
use Rattle.compose_spec.specs.Numbering.{Placed}

-- a literal of a witness as one of the composition: the composed variable in the place of its own, the sign kept
abbrev pub translate : List ℕ → ℕ → ℕ
translate vars l = 2 * get_or vars (variable l) 0 + l % 2

-- the operands of a composed gate
pub record Operands : Type 0 where
  pub left : ℕ
  pub right : ℕ

abbrev pub same_operands : Operands → Operands → Bool
same_operands g h = eqb g.left h.left && eqb g.right h.right

-- R8.5: an unordered pair: the smaller literal first
abbrev pub unordered : ℕ → ℕ → Operands
unordered x y = cond (leb x y) (record { left = x; right = y }) (record { left = y; right = x })

-- the operands of a witness's gate in the composition
abbrev pub translated : List ℕ → Gate → Operands
translated vars g = unordered (translate vars g.left) (translate vars g.right)

-- the composed variables of a witness's variables, and the composed gates so far
pub record Shared : Type 0 where
  pub vars : List ℕ
  pub gates : List Operands

-- R8.4, R8.5: the gates of a witness after the composed ones, of which the first is variable n: each gets the variable of the first composed
-- gate with its operands, or of a new one.
abbrev pub share_gates : ℕ → List Gate → Shared → Shared
share_gates n [] t = t
share_gates n (g ∷ gs) t =
    share_gates n gs (record {
      vars = t.vars ++ ((n + place same_operands (translated t.vars g) t.gates) ∷ []);
      gates = joined same_operands (translated t.vars g) t.gates;
    })

-- witness by witness: the composed variables of all its variables, gates included
abbrev pub share_witness : ℕ → Placed → List Operands → Shared
share_witness n p gates = share_gates n p.sections.gates (record { vars = p.vars; gates = gates })

-- the composed gates after all witnesses
abbrev pub gates_after : ℕ → List Placed → List Operands → List Operands
gates_after n [] gates = gates
gates_after n (p ∷ ps) gates = gates_after n ps (share_witness n p gates).gates

-- each witness with the composed variables of all its variables
abbrev pub whole_after : ℕ → List Placed → List Operands → List Placed
whole_after n [] gates = []
whole_after n (p ∷ ps) gates =
    record { sections = p.sections; vars = (share_witness n p gates).vars } ∷ whole_after n ps (share_witness n p gates).gates

-- composed gates with their outputs, from variable n on
abbrev pub gates_from : ℕ → List Operands → List Gate
gates_from n [] = []
gates_from n (g ∷ gs) = gate_from (2 * n) g.left g.right ∷ gates_from (suc n) gs
