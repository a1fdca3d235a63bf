-- Laws of lists that stand in the work words.
use Prim.Native.Nat.{ℕ, ◌+◌, ◌≤◌}
use mathlib.Core.List.{List, [], ◌∷◌, ◌++◌}
use mathlib.Core.Path.{◌≡◌, ◌∙◌, subst}
use native.Mathlib.Omega.{arith}
use lib.ListN.{length, take}
use Rattle.lists.specs.Parts.{put}
use Rattle.lists.proofs.KeptLaws.{part-kept}
use Rattle.lists.proofs.PartLaws.{put-part, put-length}
use Rattle.compose_layout.specs.Inner.Laid.{Has, Known, known_length, Standing}

module _ (work : List ℕ) (to : ℕ) (ys : List ℕ) (fits : to + length ys ≤ length work) where
  -- what was put stands there
  pub has-put : Has (put work to ys) to ys
  has-put = record { room = omega (arith, put-length work to ys fits); is = put-part work to ys (omega arith) }

-- what stands in front of a place is a matter of the words up to it
pub has_same : (v w : List ℕ) (to a : ℕ) (xs : List ℕ) → take to w ≡ take to v → length w ≡ length v → a + length xs ≤ to → Has v a xs → Has w a xs
has_same v w to a xs e n h k =
    record {
      room = omega (arith, n, k.room);
      is = part-kept w v to e a (a + length xs) h ∙ k.is;
    }

-- lists that stand up to a place stay, and one more stands behind them
pub standing-more : (v w : List ℕ) (to a : ℕ) (ks : List Known) (k : Known) → take to w ≡ take to v → length w ≡ length v → to ≡ a + known_length ks → k.place ≡ to → Has w to k.words
    → Standing v a ks → Standing w a (ks ++ k ∷ [])
standing-more v w to a [] k e n z p h s = ((p ∙ omega arith, subst (λ (j : ℕ). Has w j k.words) (omega arith) h), tt)
standing-more v w to a (x ∷ ks) k e n z p h s =
    ((s.0.0, has_same v w to a x.words e n (omega arith) s.0.1), standing-more v w to (a + length x.words) ks k e n (omega arith) p h s.1)

pub known_more : (ks : List Known) (k : Known) → known_length (ks ++ k ∷ []) ≡ known_length ks + length k.words
known_more [] k = omega arith
known_more (x ∷ ks) k = omega (arith, known_more ks k)
