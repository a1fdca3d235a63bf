-- Laws of lists that begin in the same way.
use Prim.Native.Nat.{ℕ, ◌≤◌, ◌<◌}
use mathlib.Core.List.{List}
use mathlib.Core.Path.{◌≡◌, sym, ap, ◌∙◌}
use native.Mathlib.Omega.{arith}
use lib.ListN.{get_or, take, drop}
use lib.Seq.{take-take, get_or-take}
use Rattle.lists.specs.Parts.{part}
use Rattle.lists.proofs.PartLaws.{drop-take}

module _ {A : Type 0} (l k : List A) (n : ℕ) (e : take n l ≡ take n k) where
  pub take-kept : (m : ℕ) → m ≤ n → take m l ≡ take m k
  take-kept m h = sym (take-take m n l h) ∙ ap (take m) e ∙ take-take m n k h

  pub at-kept : (i : ℕ) (d : A) → i < n → get_or l i d ≡ get_or k i d
  at-kept i d h = sym (get_or-take n l i d h) ∙ ap (λ (x : List A). get_or x i d) e ∙ get_or-take n k i d h

  pub part-kept : (a m : ℕ) → m ≤ n → part l a m ≡ part k a m
  part-kept a m h = sym (drop-take a m l) ∙ ap (drop a) (take-kept m h) ∙ drop-take a m k

-- a part of the first so many
pub part-within : {A : Type 0} (l : List A) (n a e : ℕ) → e ≤ n → part (take n l) a e ≡ part l a e
part-within l n a e h = part-kept (take n l) l n (take-take n n l (omega arith)) a e h
