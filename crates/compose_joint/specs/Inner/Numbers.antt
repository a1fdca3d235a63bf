-- For the contracts of the composer's inner functions: inputs, or latches, numbered at their first appearance, on words.
use Rattle.std.specs.Prelude.{ℕ, suc, ◌-◌, ◌/◌, cond, List, [], ◌∷◌, ◌++◌, map, eqb, length, get_or, set}
use Rattle.lists.specs.Bits.{odd}
use Rattle.lists.specs.Words.{pairs_of}
use Rattle.aiger.specs.declared.Gate.{Gate}
use Rattle.aiger.specs.Gates.{gate_from}
use Rattle.witness_read.specs.Sections.{Sections}
use Rattle.compose_spec.specs.Numbering.{input_entries, latch_entries, input_firsts, latch_firsts, numbered, leaf_count}
use Rattle.compose_spec.specs.Sharing.{Shared, share_gates}
use Rattle.compose_joint.specs.declared.Literals.TheVariants as literals
use Rattle.compose_joint.specs.Inner.Joint.{joint, list_of}

-- the numbers given, the assigned numbers afterwards, and the next number
pub record Numbers : Type 0 where
  pub numbers : List ℕ
  pub assigned : List ℕ
  pub next : ℕ

abbrev pub with_number : ℕ → Numbers → Numbers
with_number x n = record { numbers = x ∷ n.numbers; assigned = n.assigned; next = n.next }

-- the assigned numbers have a word for each input, or latch, of the model: its number, or 0 before it appears; `before` variables of the model stand in front
abbrev pub slot : ℕ → ℕ → ℕ
slot before l = l / 2 - before - 1

-- Each origin word gets a number: an odd one is private, so a new one; an even one is a literal of the model, which has one number.
abbrev pub number_all : ℕ → ℕ → List ℕ → List ℕ → Numbers
number_all before next [] assigned = record { numbers = []; assigned = assigned; next = next }
number_all before next (x ∷ xs) assigned =
    cond (odd x) (with_number next (number_all before (suc next) xs assigned))
    (cond (eqb (get_or assigned (slot before x) 0) 0) (with_number next (number_all before (suc next) xs (set assigned (slot before x) next)))
    (with_number (get_or assigned (slot before x) 0) (number_all before next xs assigned)))

-- the composed variables of the joint variables, gates left out
abbrev pub leaf_vars : Sections → List Sections → List ℕ
leaf_vars m ws =
    0 ∷ (map (numbered 1 (input_firsts m ws)) (input_entries m 0 ws)
    ++ map (numbered (suc (length (input_firsts m ws))) (latch_firsts m ws)) (latch_entries m 0 ws))

-- the gates of the joint circuit
abbrev pub joint_gates : List Sections → List Gate
joint_gates ws = pairs_of (gate_from 0) (joint (list_of literals.Operands) ws)

-- the composed variables of all joint variables, and the composed gates
abbrev pub joint_shared : Sections → List Sections → Shared
joint_shared m ws = share_gates (suc (leaf_count m ws)) (joint_gates ws) (record { vars = leaf_vars m ws; gates = [] })
