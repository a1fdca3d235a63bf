-- The sections of a text: so many lines, one item in each (R9.8).
use Rattle.std.specs.Prelude.{ℕ, zero, suc, List, [], ◌∷◌}
use Rattle.lists.specs.Answer.{Answer, got, refused, and_then}
use Rattle.lists.specs.Parts.{Bytes}

-- the items of a section, and the lines after it
pub record Section (A : Type 0) : Type 0 where
  pub items : List A
  pub rest : List Bytes

module _ {A : Type 0} where
  -- an item in front of those of the lines after it
  abbrev pub with_item : A → Section A → Answer (Section A)
  with_item a s = got (record { items = a ∷ s.items; rest = s.rest })

  -- R9.8: the items of the first n lines, and the lines after them; refused with 8 where the lines end before, else as `item` refuses
  abbrev pub section : (Bytes → Answer A) → ℕ → List Bytes → Answer (Section A)
  section item zero ls = got (record { items = []; rest = ls })
  section item (suc n) [] = refused 8
  section item (suc n) (l ∷ ls) = and_then (item l) (λ a. and_then (section item n ls) (with_item a))
