-- Laws of `latch_line`, for the code that takes a latch.
use Rattle.std.specs.Prelude.{Option, Some, None}
use Prim.Native.Nat.{ℕ, ◌≤◌, ◌<◌}
use mathlib.Core.List.{List, [], ◌∷◌}
use mathlib.Core.Path.{◌≡◌, refl, ap, sym, ◌∙◌}
use native.Mathlib.Omega.{arith}
use lib.ListN.{length, get_or}
use Rattle.lists.specs.Answer.{got, refused}
use Rattle.lists.specs.Parts.{Bytes, zeros, front}
use Rattle.text.specs.declared.Reader.TheVariants.{Witness}
use Rattle.text.proofs.LiteralLaws.{numbers_in}
use Rattle.circuit_lines.specs.Inner.OneLine.{at_most, Stored}
use Rattle.witness_text.specs.LatchLines.{latch_from, latch_numbers, latch_line}

-- ---- latch_line

-- two or three numbers in front of zeros
latch_of : (ns : List ℕ) → 2 ≤ length ns → length ns ≤ 3
    → got (latch_from (get_or (front (zeros 3) ns) 0 0) (get_or (front (zeros 3) ns) 1 0) (get_or (front (zeros 3) ns) 2 0)) ≡ latch_numbers (Some ns)
latch_of [] h k = absurd (omega arith)
latch_of (c ∷ []) h k = absurd (omega arith)
latch_of (c ∷ n ∷ []) h k = refl
latch_of (c ∷ n ∷ r ∷ []) h k = refl
latch_of (c ∷ n ∷ r ∷ m ∷ ms) h k = absurd (omega arith)

one_at_most : (ns : List ℕ) → length ns < 2 → refused 8 ≡ latch_numbers (Some ns)
one_at_most [] h = refl
one_at_most (c ∷ []) h = refl
one_at_most (c ∷ n ∷ ns) h = absurd (omega arith)

over_three : (x : Option (List ℕ)) → at_most 3 x ≡ None → refused 8 ≡ latch_numbers x
over_three None h = refl
over_three (Some []) h = refl
over_three (Some (c ∷ [])) h = refl
over_three (Some (c ∷ n ∷ [])) h = let z : ◌≡◌ {A = ℕ} 0 1 = cc in absurd (omega arith)
over_three (Some (c ∷ n ∷ r ∷ [])) h = let z : ◌≡◌ {A = ℕ} 0 1 = cc in absurd (omega arith)
over_three (Some (c ∷ n ∷ r ∷ m ∷ ms)) h = refl

module _ (l : Bytes) (ns : List ℕ) where
  pub latch_refused : at_most 3 (numbers_in Witness l) ≡ None → refused 8 ≡ latch_line l
  latch_refused k = over_three (numbers_in Witness l) k

  module _ (n : ℕ) (stored : Stored (zeros 3) ns (numbers_in Witness l) n) where
    pub latch_short : n < 2 → refused 8 ≡ latch_line l
    latch_short h = one_at_most stored.numbers (omega (arith, stored.count)) ∙ ap latch_numbers (sym stored.are)

    pub latch_some : 2 ≤ n → got (latch_from (get_or ns 0 0) (get_or ns 1 0) (get_or ns 2 0)) ≡ latch_line l
    latch_some h =
        ap (λ (o : List ℕ). got (latch_from (get_or o 0 0) (get_or o 1 0) (get_or o 2 0))) stored.stand
        ∙ latch_of stored.numbers (omega (arith, stored.count)) (omega (arith, stored.count, stored.fits))
        ∙ ap latch_numbers (sym stored.are)
