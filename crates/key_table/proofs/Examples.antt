-- Worked examples of the definitions: the keys of the operand pairs (2, 4) and (2, 6), as left + right * 2 ^ 32.
use mathlib.Core.Path.{◌≡◌, refl}
use mathlib.Core.List.{[], ◌∷◌}
use lib.Dec.{eqb}
use Rattle.lists.specs.Firsts.{place, joined}
use Rattle.key_table.specs.Inner.Table.{mix_of, head_of, code_of, link_from}
use Rattle.key_table.proofs.AddLaws.{with_node}

-- a key that appears again gets its first number, and is not added again
pub shared : place eqb 17179869186 (17179869186 ∷ 25769803778 ∷ []) ≡ 0
shared = refl

pub shared_once : joined eqb 17179869186 (17179869186 ∷ 25769803778 ∷ []) ≡ 17179869186 ∷ 25769803778 ∷ []
shared_once = refl

-- a new one gets the next number
pub next : place eqb 25769803778 (17179869186 ∷ []) ≡ 1
next = refl

-- one head and the first key: the head leads to node 0, whose links lead nowhere, whatever stood behind the head
pub first_key : with_node 1 0 17179869186 (0 ∷ 9 ∷ 9 ∷ 9 ∷ 9 ∷ 9 ∷ 9 ∷ []) (head_of 1 (mix_of 17179869186)) ≡ 1 ∷ 17179869187 ∷ 0 ∷ 0 ∷ 9 ∷ 9 ∷ 9 ∷ []
unfolding head_of mix_of
first_key = refl

-- the second key has an odd code: the link of node 0 for a 1 leads to node 1
pub second_key : with_node 1 1 25769803778 (1 ∷ 17179869187 ∷ 0 ∷ 0 ∷ 9 ∷ 9 ∷ 9 ∷ []) (link_from 1 (1 ∷ []) 0 (code_of (mix_of 25769803778))) ≡ 1 ∷ 17179869187 ∷ 0 ∷ 2 ∷ 25769803779 ∷ 0 ∷ 0 ∷ []
unfolding code_of mix_of
second_key = refl
