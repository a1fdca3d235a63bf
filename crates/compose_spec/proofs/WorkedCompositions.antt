-- Worked examples of R8.4 to R8.7: gates, latches, safety and constraints of compositions, and 16 to 19 in their order. Each is computed.
use mathlib.Core.Bool.{true, false}
use mathlib.Core.List.{List, [], ◌∷◌}
use mathlib.Core.Option.{none}
use mathlib.Core.Path.{◌≡◌, refl}
use Rattle.lists.specs.Answer.{got, refused}
use Rattle.lists.specs.Tests.{all}
use Rattle.text.specs.Numbers.{number_of}
use Rattle.aiger.specs.Gates.{gate_from}
use Rattle.text_decimal.specs.Decimal.{decimal}
use Rattle.witness_read.specs.Sections.{Sections}
use Rattle.compose_spec.specs.Sharing.{Operands}
use Rattle.compose_spec.specs.Numbering.{leaf_count}
use Rattle.compose_spec.specs.Composing.{maps_right, composed_gates, whole, gates_fit, all_defined, agree, safety, is_some, composed, compose}
use Rattle.compose_spec.proofs.WorkedMappings.{circuit, latch, to2, to4, to6, w0input, w0latch, w1latch}

-- a model: inputs 2 and 4, latch 6
abbrev small : Sections
small = circuit (none ∷ none ∷ []) (latch 6 0 none ∷ []) [] [] [] []

-- ---- gates

-- R8.5: operands in either order, and the smaller literal is printed first
pub swapped_share : compose small
    ((circuit (none ∷ none ∷ []) [] (6 ∷ []) [] [] (gate_from 6 4 2 ∷ []))
    ∷ (circuit (none ∷ none ∷ []) [] (7 ∷ []) [] [] (gate_from 6 2 4 ∷ [])) ∷ [])
    ≡ got (circuit (to2 ∷ to4 ∷ []) [] [] (6 ∷ 7 ∷ []) [] (gate_from 6 2 4 ∷ []))
unfolding compose number_of decimal
swapped_share = refl

-- also within one witness, and through gates that are shared
pub within_one : compose small
    ((circuit (none ∷ none ∷ []) [] (12 ∷ []) [] [] (gate_from 6 2 4 ∷ gate_from 8 4 2 ∷ gate_from 10 6 5 ∷ gate_from 12 5 8 ∷ []))
    ∷ (circuit (none ∷ none ∷ []) [] (9 ∷ []) [] [] (gate_from 6 4 2 ∷ gate_from 8 6 5 ∷ [])) ∷ [])
    ≡ got (circuit (to2 ∷ to4 ∷ []) [] [] (8 ∷ 9 ∷ []) [] (gate_from 6 2 4 ∷ gate_from 8 5 6 ∷ []))
unfolding compose number_of decimal
within_one = refl

-- pairs of other signs are other gates
pub signs_apart : compose small
    ((circuit (none ∷ none ∷ []) [] (6 ∷ []) [] [] (gate_from 6 2 4 ∷ []))
    ∷ (circuit (none ∷ none ∷ []) [] (6 ∷ []) [] [] (gate_from 6 3 4 ∷ [])) ∷ [])
    ≡ got (circuit (to2 ∷ to4 ∷ []) [] [] (6 ∷ 8 ∷ []) [] (gate_from 6 2 4 ∷ gate_from 8 3 4 ∷ []))
unfolding compose number_of decimal
signs_apart = refl

-- R8.5: gates with constants stay, `x and true`, `x and false`, `x and x`, `x and not x`, `true and true`
pub constants_kept : compose small
    ((circuit (none ∷ []) [] (4 ∷ []) [] [] (gate_from 4 2 1 ∷ gate_from 6 0 2 ∷ gate_from 8 2 2 ∷ gate_from 10 3 2 ∷ gate_from 12 1 1 ∷ []))
    ∷ (circuit (none ∷ []) [] (2 ∷ []) [] [] []) ∷ [])
    ≡ got (circuit (to2 ∷ []) [] [] (2 ∷ 4 ∷ []) [] (gate_from 4 1 2 ∷ gate_from 6 0 2 ∷ gate_from 8 2 2 ∷ gate_from 10 2 3 ∷ gate_from 12 1 1 ∷ []))
unfolding compose number_of decimal
constants_kept = refl

-- R8.4, gates last: those of witness 0 come after the latches of witness 1, and those of witness 1 after them
pub gates_last : compose small
    ((circuit (none ∷ []) [] (4 ∷ []) [] [] (gate_from 4 2 3 ∷ []))
    ∷ (circuit (none ∷ []) (latch 6 0 none ∷ latch 4 0 none ∷ []) (8 ∷ []) [] [] (gate_from 8 4 6 ∷ [])) ∷ [])
    ≡ got (circuit (to2 ∷ []) (latch 6 0 to6 ∷ latch 4 0 w1latch ∷ []) [] (8 ∷ 10 ∷ []) [] (gate_from 8 2 3 ∷ gate_from 10 4 6 ∷ []))
unfolding compose number_of decimal
gates_last = refl

-- a gate that nothing uses is kept, as is an input
pub unused_kept : compose small
    ((circuit (none ∷ none ∷ []) [] (0 ∷ []) [] [] (gate_from 6 2 4 ∷ []))
    ∷ (circuit [] [] (1 ∷ []) [] [] []) ∷ [])
    ≡ got (circuit (to2 ∷ to4 ∷ []) [] [] (0 ∷ 1 ∷ []) [] (gate_from 6 2 4 ∷ []))
unfolding compose number_of decimal
unused_kept = refl

-- ---- safety and constraints

-- R8.7: by number, each once, both signs kept, over all witnesses
pub sets : compose small
    ((circuit (none ∷ none ∷ []) [] [] (5 ∷ 4 ∷ 3 ∷ 4 ∷ []) (5 ∷ 2 ∷ 5 ∷ []) [])
    ∷ (circuit (none ∷ none ∷ []) [] [] (2 ∷ 3 ∷ []) (4 ∷ 2 ∷ []) []) ∷ [])
    ≡ got (circuit (to2 ∷ to4 ∷ []) [] [] (2 ∷ 3 ∷ 4 ∷ 5 ∷ []) (2 ∷ 4 ∷ 5 ∷ []) [])
unfolding compose number_of decimal
sets = refl

-- false and true are bads and constraints like others, once for all witnesses
pub constants_bad : compose small
    ((circuit (none ∷ []) [] [] (2 ∷ 1 ∷ 0 ∷ []) (1 ∷ 2 ∷ []) [])
    ∷ (circuit (none ∷ []) [] [] (0 ∷ 1 ∷ []) (0 ∷ 1 ∷ []) []) ∷ [])
    ≡ got (circuit (to2 ∷ []) [] [] (0 ∷ 1 ∷ 2 ∷ []) (0 ∷ 1 ∷ 2 ∷ []) [])
unfolding compose number_of decimal
constants_bad = refl

-- R8.6, for each witness
pub outputs-unless-bads : compose small
    ((circuit (none ∷ none ∷ []) [] (2 ∷ 3 ∷ []) (4 ∷ []) [] [])
    ∷ (circuit (none ∷ none ∷ []) [] (5 ∷ []) [] [] []) ∷ [])
    ≡ got (circuit (to2 ∷ to4 ∷ []) [] [] (4 ∷ 5 ∷ []) [] [])
unfolding compose number_of decimal
outputs-unless-bads = refl

-- the order is that of the composed literals: input 1 of witness 1 appears first in witness 0
pub by-composed : compose small
    ((circuit (to4 ∷ []) [] [] (2 ∷ []) [] [])
    ∷ (circuit (none ∷ none ∷ []) [] [] (2 ∷ 4 ∷ 0 ∷ []) (2 ∷ 4 ∷ []) []) ∷ [])
    ≡ got (circuit (to4 ∷ to2 ∷ []) [] [] (0 ∷ 2 ∷ 4 ∷ []) (2 ∷ 4 ∷ []) [])
unfolding compose number_of decimal
by-composed = refl

-- by number, not by digits
pub ten_after_nine : compose small
    ((circuit (none ∷ none ∷ none ∷ none ∷ none ∷ []) [] [] (10 ∷ 9 ∷ []) [] [])
    ∷ (circuit [] [] [] (1 ∷ []) [] []) ∷ [])
    ≡ got (circuit (to2 ∷ to4 ∷ w0input ∷ w0input ∷ w0input ∷ []) [] [] (1 ∷ 9 ∷ 10 ∷ []) [] [])
unfolding compose number_of decimal
ten_after_nine = refl

-- ---- latches: R9.18

-- composed literals are compared: gates 8 and 10 of the two witnesses are one
pub equal_through_sharing : compose small
    ((circuit (none ∷ none ∷ []) (latch 8 2 none ∷ []) (6 ∷ []) [] [] (gate_from 8 2 4 ∷ []))
    ∷ (circuit (none ∷ none ∷ []) (latch 10 2 none ∷ []) (6 ∷ []) [] [] (gate_from 8 2 2 ∷ gate_from 10 4 2 ∷ [])) ∷ [])
    ≡ got (circuit (to2 ∷ to4 ∷ []) (latch 8 2 to6 ∷ []) [] (6 ∷ []) [] (gate_from 8 2 4 ∷ gate_from 10 2 2 ∷ []))
unfolding compose number_of decimal
equal_through_sharing = refl

-- another next literal
pub next_disagrees : compose small
    ((circuit (none ∷ none ∷ []) (latch 2 0 none ∷ []) (6 ∷ []) [] [] [])
    ∷ (circuit (none ∷ none ∷ []) (latch 4 0 none ∷ []) (6 ∷ []) [] [] []) ∷ [])
    ≡ refused 18
unfolding compose number_of decimal
next_disagrees = refl

-- the sign counts
pub next_sign_disagrees : compose small
    ((circuit (none ∷ none ∷ []) (latch 2 0 none ∷ []) (6 ∷ []) [] [] [])
    ∷ (circuit (none ∷ none ∷ []) (latch 3 0 none ∷ []) (6 ∷ []) [] [] []) ∷ [])
    ≡ refused 18
unfolding compose number_of decimal
next_sign_disagrees = refl

-- another reset literal, though next is the same
pub reset_disagrees : compose small
    ((circuit (none ∷ none ∷ []) (latch 2 0 none ∷ []) (6 ∷ []) [] [] [])
    ∷ (circuit (none ∷ none ∷ []) (latch 2 1 none ∷ []) (6 ∷ []) [] [] []) ∷ [])
    ≡ refused 18
unfolding compose number_of decimal
reset_disagrees = refl

-- the same literals under another mapping
pub equal_text_other-mapping : compose small
    ((circuit (to2 ∷ to4 ∷ []) (latch 2 0 to6 ∷ []) (6 ∷ []) [] [] [])
    ∷ (circuit (to4 ∷ to2 ∷ []) (latch 2 0 to6 ∷ []) (6 ∷ []) [] [] []) ∷ [])
    ≡ refused 18
unfolding compose number_of decimal
equal_text_other-mapping = refl

-- `x and true` is not `x`
pub and-true_disagrees : compose small
    ((circuit (none ∷ none ∷ []) (latch 2 0 none ∷ []) (6 ∷ []) [] [] [])
    ∷ (circuit (none ∷ none ∷ []) (latch 8 0 none ∷ []) (6 ∷ []) [] [] (gate_from 8 2 1 ∷ [])) ∷ [])
    ≡ refused 18
unfolding compose number_of decimal
and-true_disagrees = refl

-- next literals that are different gates
pub gates_disagree : compose small
    ((circuit (none ∷ none ∷ []) (latch 8 0 none ∷ []) (6 ∷ []) [] [] (gate_from 8 2 4 ∷ []))
    ∷ (circuit (none ∷ none ∷ []) (latch 8 0 none ∷ []) (6 ∷ []) [] [] (gate_from 8 2 5 ∷ [])) ∷ [])
    ≡ refused 18
unfolding compose number_of decimal
gates_disagree = refl

-- two latches of one witness mapped to one model latch are one where they agree; resets may be any literal
pub own_two_agree : compose small
    ((circuit (to2 ∷ []) (latch 4 3 to6 ∷ latch 6 3 to6 ∷ []) (6 ∷ []) [] [] [])
    ∷ (circuit (none ∷ []) [] (2 ∷ []) [] [] []) ∷ [])
    ≡ got (circuit (to2 ∷ []) (latch 4 3 to6 ∷ []) [] (2 ∷ 4 ∷ []) [] [])
unfolding compose number_of decimal
own_two_agree = refl

-- and 18 where they do not
pub own_two_disagree : compose small
    ((circuit (to2 ∷ []) (latch 2 0 to6 ∷ latch 4 0 to6 ∷ []) (6 ∷ []) [] [] [])
    ∷ (circuit (none ∷ []) [] (2 ∷ []) [] [] []) ∷ [])
    ≡ refused 18
unfolding compose number_of decimal
own_two_disagree = refl

-- private latches may differ
pub private_may_differ : compose small
    ((circuit (to2 ∷ []) (latch 2 0 none ∷ []) (2 ∷ []) [] [] [])
    ∷ (circuit (to2 ∷ []) (latch 3 1 none ∷ []) (2 ∷ []) [] [] []) ∷ [])
    ≡ got (circuit (to2 ∷ []) (latch 2 0 w0latch ∷ latch 3 1 w1latch ∷ []) [] (2 ∷ []) [] [])
unfolding compose number_of decimal
private_may_differ = refl

-- the third witness is compared too
pub third_disagrees : compose small
    ((circuit [] (latch 2 0 none ∷ []) (2 ∷ []) [] [] [])
    ∷ (circuit [] (latch 2 0 none ∷ []) (2 ∷ []) [] [] [])
    ∷ (circuit [] (latch 3 0 none ∷ []) (2 ∷ []) [] [] []) ∷ [])
    ≡ refused 18
unfolding compose number_of decimal
third_disagrees = refl

-- ---- 19, and the order of 16, 18 and 19 over all witnesses

-- R9.19: constraints do not help
pub no_safety : compose small
    ((circuit (none ∷ []) [] (2 ∷ []) [] [] [])
    ∷ (circuit (none ∷ []) [] [] [] (2 ∷ []) []) ∷ [])
    ≡ refused 19
unfolding compose number_of decimal
no_safety = refl

-- 19 in witness 0, 16 in witness 1
pub sixteen_first : compose small
    ((circuit (none ∷ []) [] [] [] [] [])
    ∷ (circuit (to6 ∷ []) [] (2 ∷ []) [] [] []) ∷ [])
    ≡ refused 16
unfolding compose number_of decimal
sixteen_first = refl

-- 18 between witnesses 0 and 1, 16 in the latch of witness 2
pub sixteen_before_eighteen : compose small
    ((circuit [] (latch 2 0 none ∷ []) (2 ∷ []) [] [] [])
    ∷ (circuit [] (latch 3 0 none ∷ []) (2 ∷ []) [] [] [])
    ∷ (circuit [] (latch 2 0 to4 ∷ []) (2 ∷ []) [] [] []) ∷ [])
    ≡ refused 16
unfolding compose number_of decimal
sixteen_before_eighteen = refl

-- 19 in witness 0, 18 in witness 1
pub eighteen_first : compose small
    ((circuit [] (latch 2 0 none ∷ []) [] [] [] [])
    ∷ (circuit [] (latch 3 0 none ∷ []) (2 ∷ []) [] [] []) ∷ [])
    ≡ refused 18
unfolding compose number_of decimal
eighteen_first = refl

-- ---- R9.17

abbrev gate : Operands
gate = record { left = 0; right = 0 }

-- inputs and latches alone may be more; one gate behind 1,999,999 of them fits, behind 2,000,000 not; two behind 1,999,998 fit, behind 1,999,999 not
pub fits : gates_fit 2000001 [] ∷ gates_fit 1999999 (gate ∷ []) ∷ gates_fit 2000000 (gate ∷ []) ∷ gates_fit 1999998 (gate ∷ gate ∷ []) ∷ gates_fit 1999999 (gate ∷ gate ∷ []) ∷ []
    ≡ true ∷ true ∷ false ∷ true ∷ false ∷ []
fits = refl

-- ---- R10.1, for all sections: 16, 17, 18, 19, each over all witnesses

module _ (m : Sections) (ws : List Sections) where
  pub sixteen : all (maps_right m) ws ≡ false → compose m ws ≡ refused 16
  unfolding compose
  sixteen a = rw a refl

  module _ (a : all (maps_right m) ws ≡ true) where
    pub seventeen : gates_fit (leaf_count m ws) (composed_gates m ws) ≡ false → compose m ws ≡ refused 17
    unfolding compose
    seventeen b = rw a (rw b refl)

    module _ (b : gates_fit (leaf_count m ws) (composed_gates m ws) ≡ true) where
      pub eighteen : agree (all_defined (whole m ws)) ≡ false → compose m ws ≡ refused 18
      unfolding compose
      eighteen c = rw a (rw b (rw c refl))

      module _ (c : agree (all_defined (whole m ws)) ≡ true) where
        pub nineteen : all (λ s. is_some (safety s)) ws ≡ false → compose m ws ≡ refused 19
        unfolding compose
        nineteen d = rw a (rw b (rw c (rw d refl)))

        pub accepted : all (λ s. is_some (safety s)) ws ≡ true → compose m ws ≡ got (composed m ws)
        unfolding compose
        accepted d = rw a (rw b (rw c (rw d refl)))
