-- The latches of a record's words, taken one by one.
use Prim.Native.Nat.{ℕ, zero, suc, ◌+◌, ◌*◌, ◌<◌}
use mathlib.Core.List.{List, map}
use mathlib.Core.Path.{◌≡◌, refl, sym, ap, ◌∙◌}
use native.Mathlib.Omega.{arith}
use lib.ListN.{length, get_or, take, set, length-map}
use lib.Seq.{ext_get_or}
use Rattle.lists.proofs.MapLaws.{map_at}
use Rattle.lists.proofs.RestLaws.{copy_more, copy_end}
use Rattle.model.specs.declared.AigerLatch.{AigerLatch}
use Rattle.model.specs.RecordWords.{latch_in, latches_in}

pub latches-length : (ws : List ℕ) (n at : ℕ) → length (latches_in ws n at) ≡ n
latches-length ws zero at = refl
latches-length ws (suc n) at = ap suc (latches-length ws n (at + 2))

latches-at : (ws : List ℕ) (n at i : ℕ) (d : AigerLatch) → i < n → get_or (latches_in ws n at) i d ≡ latch_in ws (at + 2 * i)
latches-at ws zero at i d h = absurd (omega arith)
latches-at ws (suc n) at zero d h = let e : at + 2 * 0 ≡ at = omega arith in rw e refl
latches-at ws (suc n) at (suc i) d h =
    let e : at + 2 + 2 * i ≡ at + 2 * suc i = omega arith in
    latches-at ws n (at + 2) i d (omega arith) ∙ ap (latch_in ws) e

module _ (ws : List ℕ) (r : List AigerLatch) (i : ℕ) (same : take i r ≡ take i (latches_in ws 8 67)) where
  pub latches-more : i < 8 → length r ≡ 8 → (l : AigerLatch) → l ≡ latch_in ws (67 + 2 * i) → take (i + 1) (set r i l) ≡ take (i + 1) (latches_in ws 8 67)
  latches-more h n l e =
      let k : length (latches_in ws 8 67) ≡ 8 = latches-length ws 8 67 in
      copy_more r (latches_in ws 8 67) i same l l (e ∙ sym (latches-at ws 8 67 i l h)) (omega arith) (omega arith)

  pub latches-end : 8 < i + 1 → length r ≡ 8 → r ≡ latches_in ws 8 67
  latches-end h n =
      let k : length (latches_in ws 8 67) ≡ 8 = latches-length ws 8 67 in
      copy_end r (latches_in ws 8 67) i same (omega arith) (omega arith)

-- an array that was mapped element by element
pub mapped : {A B : Type 0} (f : A → B) (xs : List A) (ys : List B) (d : A) (e : B) → length xs ≡ length ys → ((i : ℕ) → i < length ys → get_or ys i e ≡ f (get_or xs i d)) → ys ≡ map f xs
mapped f xs ys d e n k =
    ext_get_or e ys (map f xs) (sym n ∙ sym (length-map xs f)) (λ i h. k i h ∙ sym (map_at f xs i d e (rw n h)))
