-- The rest of a list at a loop's place, in the code's `i + 1`, and a list copied element by element. (The end of a loop is `drop_of_length-le` of `lib.ListN`.)
use Prim.Native.Nat.{ℕ, zero, suc, ◌+◌, ◌≤◌, ◌<◌}
use mathlib.Core.Path.{◌≡◌, refl, sym, ◌∙◌}
use mathlib.Core.List.{List, [], ◌∷◌, ◌++◌, map}
use native.Mathlib.Nat.{add-zero}
use native.Mathlib.Numerals.{add-one}
use native.Mathlib.Omega.{arith}
use lib.ListN.{length, get_or, take, drop, set, length-map, get_or-map}
use lib.Seq.{drop-cons, take-suc, take-suc-set, take_all, get_or-drop}

-- an element of a list, whatever stands past its end
pub here-same : {A : Type 0} (l : List A) (i : ℕ) (d e : A) → i < length l → get_or l i d ≡ get_or l i e
here-same [] i d e h = absurd (omega arith)
here-same (a ∷ l) zero d e h = refl
here-same (a ∷ l) (suc i) d e h = here-same l i d e (omega arith)

pub rest-head : {A : Type 0} (l : List A) (i : ℕ) (d : A) → get_or (drop i l) 0 d ≡ get_or l i d
rest-head l i d = rw add-zero at (get_or-drop i l 0 d)

module _ {A : Type 0} (l : List A) (i : ℕ) (d : A) (h : i < length l) where
  pub rest_more : drop i l ≡ get_or l i d ∷ drop (i + 1) l
  rest_more = rw (add-one i) (drop-cons l i d h)

  pub take_next : take (i + 1) l ≡ take i l ++ get_or l i d ∷ []
  take_next = rw (add-one i) (take-suc l i d h)

-- r becomes a copy of l; its first i elements are copied
module _ {A : Type 0} (r l : List A) (i : ℕ) (same : take i r ≡ take i l) where
  pub copy_more : (v d : A) → v ≡ get_or l i d → i < length r → i < length l → take (i + 1) (set r i v) ≡ take (i + 1) l
  copy_more v d e h k = rw (add-one, take-suc-set r i v h, take-suc l i d k, same, e)

  pub copy_end : length r ≤ i → length l ≤ i → r ≡ l
  copy_end h k = sym (take_all i r h) ∙ same ∙ take_all i l k

-- r becomes the image of l under f
module _ {A B : Type 0} (f : A → B) (r : List B) (l : List A) (i : ℕ) (same : take i r ≡ take i (map f l)) where
  pub map_more : (d : A) → i < length r → i < length l → take (i + 1) (set r i (f (get_or l i d))) ≡ take (i + 1) (map f l)
  map_more d h k = copy_more r (map f l) i same (f (get_or l i d)) (f d) (sym (get_or-map f l i d)) h (rw length-map k)

  pub map-end : length r ≤ i → length l ≤ i → r ≡ map f l
  map-end h k = copy_end r (map f l) i same h (rw length-map k)
