-- Laws of the tests of a text's bytes, for the code that makes them.
use Prim.Native.Nat.{suc, ◌-◌}
use mathlib.Core.Path.{◌≡◌, refl}
use mathlib.Core.List.{[], ◌∷◌}
use mathlib.Core.Bool.{and-true}
use native.Mathlib.Omega.{arith}
use lib.Dec.{eqb}
use lib.ListN.{length}
use Rattle.std.specs.List.{ends_with}
use Rattle.lists.specs.Parts.{Bytes}
use Rattle.lists.proofs.BoolLaws.{eqb_swap}
use Rattle.scan.specs.Allowed.{ends_in10}

-- ---- the ranks that the block loops compare

-- ---- the last byte, as std's `ends_with` looks at it

pub ends-std : (t : Bytes) → ends_with eqb t (10 ∷ []) ≡ ends_in10 t
ends-std [] = refl
ends-std (b ∷ []) = rw (eqb_swap 10 b, and-true (eqb b 10)) refl
ends-std (b ∷ c ∷ bs) =
    let e : suc (suc (length bs)) - 1 ≡ suc (length bs) = omega arith in
    let f : suc (length bs) - 1 ≡ length bs = omega arith in
    rw e (rw f at (ends-std (c ∷ bs)))
